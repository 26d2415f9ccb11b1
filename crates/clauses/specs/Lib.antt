pub mod Clauses
pub mod Known
pub mod Budget
pub mod Steps
