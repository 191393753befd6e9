pub mod NameLemmas
pub mod PartLemmas
pub mod RowLemmas
pub mod Rows
pub mod SetLemmas
