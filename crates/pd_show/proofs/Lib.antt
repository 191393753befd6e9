pub mod PageLemmas
pub mod SeenLemmas
pub mod ShowLemmas
pub mod SinceLemmas
