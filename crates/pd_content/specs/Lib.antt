pub mod Fields
pub mod Units
pub mod Rows
pub mod Kinds
pub mod Texts
pub mod Members
pub mod Laws
