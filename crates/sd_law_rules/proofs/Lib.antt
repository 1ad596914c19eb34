pub mod Rows
pub mod Moving
pub mod Filling
pub mod Clearing
pub mod Telling
pub mod Quiet
pub mod Worlds
pub mod Own
