pub mod Cables
pub mod Later
pub mod Lines
pub mod Noise
pub mod Record
pub mod Told
pub mod PortStep
