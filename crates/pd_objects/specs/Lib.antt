pub mod Answers
pub mod FixedSupply
pub mod Laws
pub mod RequestObject
pub mod SinkSupply
pub mod Supply
