pub mod Parts
pub mod Cut
pub mod Says
pub mod Moved
pub mod Sought
