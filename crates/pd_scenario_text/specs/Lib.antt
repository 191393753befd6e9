pub mod FileTables
pub mod Document
pub mod File
pub mod Laws
pub mod Names
pub mod Reading
pub mod Refusals
pub mod Texts
