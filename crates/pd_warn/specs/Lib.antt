pub mod Stated
pub mod Watch
pub mod Warnings
pub mod Truth
