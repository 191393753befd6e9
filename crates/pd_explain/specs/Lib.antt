pub mod Hints
pub mod Laws
pub mod Lines
pub mod Places
pub mod Sentences
pub mod Stops
