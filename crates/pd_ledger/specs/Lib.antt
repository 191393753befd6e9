pub mod Account
pub mod Laws
pub mod Offer
