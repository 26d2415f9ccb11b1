pub mod Pair
pub mod View
