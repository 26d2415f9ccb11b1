pub mod Appending
pub mod Numbers
pub mod Parts
pub mod Showing
