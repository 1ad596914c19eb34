pub mod CoversReach
pub mod Given
