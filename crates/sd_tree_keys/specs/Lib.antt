pub mod Node
pub mod Leaves
pub mod SetNames
pub mod Paths
pub mod Limits
pub mod Labels
pub mod Keys
pub mod Names
