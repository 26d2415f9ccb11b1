pub mod Kept
pub mod Asked
