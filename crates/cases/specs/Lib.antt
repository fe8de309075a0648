pub mod Calls
pub mod Answers
pub mod Frames
pub mod Known
pub mod Floors
pub mod Costs
pub mod Order
pub mod Places
