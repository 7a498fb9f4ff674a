pub mod Indices
pub mod Freshness
pub mod Order
pub mod Places
pub mod Taken
