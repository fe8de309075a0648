pub mod Meets
pub mod Standing
pub mod Cutting
pub mod Heights
pub mod Numbers
pub mod Keeping
