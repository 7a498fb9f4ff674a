pub mod Disks
pub mod Walks
