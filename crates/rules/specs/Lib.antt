pub mod Jobs
pub mod Refusals
pub mod Library
pub mod Edits
pub mod Frames
pub mod Files
pub mod Encoding
pub mod Changes
