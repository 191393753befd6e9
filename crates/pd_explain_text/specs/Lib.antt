pub mod LastLine
pub mod Sentences
pub mod Texts
pub mod Told
pub mod Warnings
