pub mod Choices
pub mod Lines
pub mod Pages
pub mod Seen
pub mod Show
pub mod Since
pub mod Texts
