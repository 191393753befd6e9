pub mod BandLemmas
pub mod MarkLemmas
pub mod PhaseLemmas
pub mod PictureLemmas
pub mod TitleLemmas
pub mod WalkLemmas
