pub mod Ranges
pub mod Scales
