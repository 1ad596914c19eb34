pub mod Answers
pub mod Meaning
pub mod Notes
pub mod Refusals
pub mod Troubles
