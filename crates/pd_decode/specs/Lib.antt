pub mod Argument
pub mod Decoding
pub mod Laws
pub mod Lines
pub mod Printing
