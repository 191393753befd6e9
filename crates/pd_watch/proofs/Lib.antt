pub mod Keeps
pub mod Watched
