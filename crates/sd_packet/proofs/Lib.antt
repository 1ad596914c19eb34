pub mod Headers
pub mod Positions
pub mod Packets
