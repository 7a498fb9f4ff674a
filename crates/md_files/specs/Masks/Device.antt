-- A device of which some sectors are not given.
pub mod Masked
