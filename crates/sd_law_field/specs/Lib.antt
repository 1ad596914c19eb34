pub mod Times
pub mod Fielded
pub mod Trials
pub mod Choices
pub mod Changed
