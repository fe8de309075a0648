pub mod Ranks
pub mod Lawful
pub mod Totals
