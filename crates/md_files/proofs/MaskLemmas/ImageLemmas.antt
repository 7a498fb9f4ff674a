pub mod Masking
pub mod Named
pub mod OwnLines
