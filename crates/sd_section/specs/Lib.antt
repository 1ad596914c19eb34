pub mod Header
pub mod Judged
pub mod Written
pub mod Assembled
pub mod OneMore
pub mod Crc
pub mod Steps
