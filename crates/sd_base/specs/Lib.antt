pub mod Count
pub mod Types
pub mod Bits
pub mod Spans
pub mod Lines
pub mod Number
