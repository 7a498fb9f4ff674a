-- A device that crashes with others, for tests.
pub mod Crashing
