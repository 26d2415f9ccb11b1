pub mod Measured
pub mod Number
pub mod Paired
