pub mod FixedSupplies
pub mod SinkSupplies
pub mod Requests
