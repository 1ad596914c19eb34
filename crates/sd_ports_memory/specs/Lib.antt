pub mod Failing
pub mod Memory
