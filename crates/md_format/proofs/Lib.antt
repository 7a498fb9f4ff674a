pub mod Places
pub mod Order
pub mod Written
pub mod Parts
