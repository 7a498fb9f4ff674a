-- What a device holds.
pub mod Holding
