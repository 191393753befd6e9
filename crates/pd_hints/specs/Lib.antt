pub mod Slips
pub mod ReasonLaws
pub mod Reasons
