pub mod LeftOut
pub mod Tried
pub mod Fewer
pub mod Steady
