pub mod Watch
pub mod Truth
