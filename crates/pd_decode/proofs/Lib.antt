pub mod ArgumentLemmas
pub mod OneLemmas
