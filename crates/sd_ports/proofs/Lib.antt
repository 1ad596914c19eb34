pub mod Outlets
pub mod Portions
pub mod Calls
pub mod Rooms
pub mod Prefixes
pub mod Faults
pub mod Starts
