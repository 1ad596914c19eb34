pub mod Heard
pub mod Seats
pub mod Stations
pub mod Fields
pub mod Script
pub mod Line
pub mod Laid
