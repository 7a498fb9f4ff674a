pub mod Each
pub mod Told
mod Runs
