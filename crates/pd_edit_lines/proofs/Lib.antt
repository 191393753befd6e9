pub mod FirstNumber
pub mod FirstWord
pub mod Lines
pub mod Supplies
pub mod Grammar
