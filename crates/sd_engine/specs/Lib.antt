pub mod Stream
pub mod Stage
pub mod Feeding
pub mod Driving
pub mod Taken
pub mod Sample
pub mod Cut
pub mod Seeking
