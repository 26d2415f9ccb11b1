pub mod Row
pub mod Lowest
