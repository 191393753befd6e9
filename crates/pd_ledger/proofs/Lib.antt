pub mod Sums
pub mod Offers
pub mod Stays
