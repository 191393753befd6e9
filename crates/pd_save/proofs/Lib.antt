pub mod Read
pub mod Order
pub mod Whole
pub mod Joined
