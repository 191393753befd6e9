pub mod Asks
pub mod Conditions
pub mod Laws
pub mod Names
pub mod Rows
pub mod Sets
pub mod Tellings
pub mod Varies
