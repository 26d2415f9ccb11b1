pub mod Chain
pub mod Numbers
pub mod Skimming
pub mod Trees
