pub mod Digits
pub mod FirstPart
pub mod ByteByByte
pub mod ObjectByObject
pub mod PartByPart
pub mod Joined
pub mod CellByCell
pub mod BehindName
