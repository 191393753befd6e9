pub mod Counts
pub mod First
pub mod FirstLines
pub mod Funds
pub mod Known
pub mod Numbered
pub mod Places
pub mod Same
