pub mod Costs
pub mod Ceiling
pub mod Schemes
