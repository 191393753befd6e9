pub mod Cost
pub mod Laws
pub mod Pending
pub mod Session
pub mod Stream
pub mod Traces
pub mod Texts
