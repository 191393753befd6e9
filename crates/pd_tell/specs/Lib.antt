pub mod Amounts
pub mod Members
pub mod Words
