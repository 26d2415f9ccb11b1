pub mod Read
pub mod Format
pub mod Written
pub mod Ceases
