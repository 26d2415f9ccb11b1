pub mod Symbol
pub mod Choice
pub mod View
pub mod Filling
pub mod Side
