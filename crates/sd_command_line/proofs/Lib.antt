pub mod Rows
pub mod Sound
pub mod Refused
pub mod Words
pub mod Items
pub mod Others
pub mod Printing
pub mod Finding
mod Marks
pub mod Spelling
