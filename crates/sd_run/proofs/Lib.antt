pub mod Answering
pub mod Examples
pub mod Works
pub mod Rows
pub mod Notes
pub mod Ordered
