pub mod Members
pub mod Elements
pub mod Chosen
pub mod Texts
pub mod Standing
