pub mod Events
pub mod Members
pub mod Parts
pub mod Sound
pub mod Suited
