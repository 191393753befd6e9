pub mod Headers
pub mod Deliveries
pub mod Resent
