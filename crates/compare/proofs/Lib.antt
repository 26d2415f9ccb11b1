pub mod Cutting
pub mod Laying
pub mod Suffix
pub mod Narrowing
pub mod Heading
pub mod Telling
