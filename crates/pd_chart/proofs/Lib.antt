pub mod LeastLemmas
pub mod LevelLemmas
pub mod PictureLemmas
pub mod ToldLemmas
