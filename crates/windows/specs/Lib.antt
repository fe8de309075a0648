pub mod Windows
pub mod Chains
pub mod Counts
