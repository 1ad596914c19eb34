pub mod Know
