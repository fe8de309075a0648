pub mod Plans
pub mod Distance
pub mod Units
pub mod Order
pub mod Places
