pub mod Every
pub mod Promises
