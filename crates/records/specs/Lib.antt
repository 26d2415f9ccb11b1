pub mod Rest
pub mod Record
