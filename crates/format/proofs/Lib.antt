pub mod Exprs
pub mod Numbers
pub mod Rows
pub mod Parsers
pub mod Requests
pub mod Local
pub mod Readers
pub mod Offsets
