pub mod Device
pub mod Numbers
pub mod Text
