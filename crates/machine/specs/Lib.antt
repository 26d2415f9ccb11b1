pub mod Row
pub mod Window
pub mod Sink
pub mod Ready
pub mod Sound
pub mod View
pub mod Sinks
