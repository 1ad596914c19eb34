pub mod Closing
pub mod Failings
pub mod Shelves
