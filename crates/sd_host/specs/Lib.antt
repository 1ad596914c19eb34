pub mod Faults
pub mod Folder
pub mod Kept
pub mod Waiting
pub mod Told
