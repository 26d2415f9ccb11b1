pub mod Tested
pub mod Totals
pub mod Parts
pub mod Within
