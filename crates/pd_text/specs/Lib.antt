pub mod Amounts
pub mod Pieces
pub mod Texts
pub mod Json
pub mod Strings
pub mod Fronts
pub mod Pages
