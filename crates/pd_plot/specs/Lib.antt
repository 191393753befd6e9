pub mod Amounts
pub mod Heats
pub mod Laws
pub mod Layouts
pub mod Lines
pub mod Pictures
pub mod Places
pub mod Points
