pub mod Progress
pub mod Switches
pub mod Cost
