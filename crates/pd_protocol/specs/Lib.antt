pub mod Messages
pub mod LayerRecord
pub mod Layer
pub mod Laws
