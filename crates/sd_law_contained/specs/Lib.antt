pub mod Alone
pub mod Contained
pub mod Changed
