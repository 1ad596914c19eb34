pub mod Header
pub mod Positions
pub mod Packing
