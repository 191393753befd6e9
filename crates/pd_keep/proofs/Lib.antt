pub mod Asked
pub mod Beside
pub mod Counts
pub mod Entries
pub mod Course
mod Following
pub mod Fresh
pub mod InTime
pub mod Later
pub mod Made
pub mod Paid
pub mod Noted
pub mod Parted
pub mod Places
pub mod Ranks
pub mod Shares
pub mod Shows
pub mod Starts
