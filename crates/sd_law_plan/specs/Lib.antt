pub mod Monitored
pub mod Told
pub mod Within
