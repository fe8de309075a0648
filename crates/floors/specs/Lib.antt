pub mod Floors
