pub mod Costs
pub mod Inputs
pub mod Written
