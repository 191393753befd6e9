pub mod Identity
pub mod Laws
