pub mod Events
pub mod Settings
pub mod Sinks
