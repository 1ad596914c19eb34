pub mod Sent
pub mod Ended
pub mod Counted
