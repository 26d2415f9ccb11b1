pub mod Parser
pub mod Refusal
pub mod Request
pub mod Promise
pub mod Config
pub mod Theory
