mod Telling
mod Sends
mod Numbering
mod Counting
mod Starting
mod Added
mod Stepping
mod Offering
mod Last
pub mod Airing
mod Going
pub mod Chained
pub mod ClearKinds
pub mod Refusing
pub mod Judging
pub mod Carrying
pub mod Marking
pub mod Moving
pub mod Placing
pub mod Beginning
mod Replayed
mod Listing
pub mod Packing
mod Sets
pub mod Periods
