-- A rebuild's passes, one after another.
pub mod Passes
-- The passes of a rebuild in an array as a mirror keeps it in memory.
pub mod Listed
