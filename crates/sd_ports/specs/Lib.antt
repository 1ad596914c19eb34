pub mod Bytes
pub mod Files
pub mod Causes
pub mod Memory
pub mod Rooms
pub mod Faults
