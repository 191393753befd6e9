pub mod Bounds
pub mod Charger
pub mod Laws
pub mod Tellings
