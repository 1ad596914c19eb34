pub mod LayerNames
pub mod Fields
pub mod Layers
pub mod Cover
