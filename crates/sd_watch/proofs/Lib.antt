pub mod Counted
pub mod Strays
pub mod Renumbered
pub mod Tallies
pub mod Recents
pub mod Taken
pub mod Watched
