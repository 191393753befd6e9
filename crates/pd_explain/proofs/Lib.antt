mod FirstReason
mod Least
mod Others
mod WhereBroken
mod WordCounts
pub mod NearWords
