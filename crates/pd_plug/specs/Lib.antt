pub mod Record
pub mod Table
pub mod Facts
pub mod Acts
pub mod Step
pub mod Laws
