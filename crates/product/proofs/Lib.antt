pub mod BitNumbers
pub mod Numbers
pub mod Pairs
pub mod Exponents
pub mod Rows
pub mod Packing
pub mod Steps
pub mod Joining
