pub mod Lists
pub mod Wholes
