pub mod Bands
pub mod Lanes
pub mod Laws
pub mod Marks
pub mod Phases
pub mod Picture
pub mod Places
