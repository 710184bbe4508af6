pub mod Parts
pub mod Layers
pub mod Laws
