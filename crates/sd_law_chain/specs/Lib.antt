pub mod Chain
pub mod Heard
pub mod Made
