pub mod EarliestLoop
pub mod LatestLoop
