pub mod Keystream
pub mod Wrapping
pub mod Scrambling
