pub mod Places
pub mod Books
pub mod Linked
pub mod Nodes
pub mod Steps
pub mod Numbers
pub mod Entries
