pub mod Slots
pub mod Counts
pub mod Turns
pub mod Explorations
pub mod Spellings
pub mod Traces
pub mod Messages
pub mod Ends
