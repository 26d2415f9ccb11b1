pub mod Machine
pub mod Good
pub mod Number
pub mod Numbering
pub mod Statement
pub mod Leap
pub mod Walk
