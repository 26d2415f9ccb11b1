pub mod Signs
pub mod Growing
pub mod Looks
pub mod Reading
pub mod Sats
pub mod Trails
pub mod Spending
