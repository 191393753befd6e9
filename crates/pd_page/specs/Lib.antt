pub mod Answers
pub mod Calls
pub mod Choices
pub mod Endings
pub mod Explained
pub mod Logs
