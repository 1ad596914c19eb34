pub mod Numbered
pub mod Tallied
pub mod Tags
pub mod Watching
pub mod Taking
