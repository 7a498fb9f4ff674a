pub mod Looked
pub mod Seen
