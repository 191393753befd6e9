pub mod NameLemmas
pub mod TextLemmas
pub mod JsonLemmas
pub mod PageLemmas
