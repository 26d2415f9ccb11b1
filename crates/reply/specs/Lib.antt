pub mod Appends
pub mod Front
pub mod Printed
pub mod View
