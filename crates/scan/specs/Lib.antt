pub mod Reads
pub mod Skim
