pub mod Frames
pub mod Runs
pub mod Sectors
pub mod Stored
