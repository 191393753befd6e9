mod Digits
mod Keys
mod Listed
mod Pairs
mod Joined
mod Outs
mod Whole
pub mod Found
mod NextLine
