pub mod Quantities
pub mod Readings
