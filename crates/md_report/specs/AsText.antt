-- An opened array.
pub mod WholeArray
-- A rebuild, before it and after it.
pub mod Rebuilds
-- The report of a check, as text, in a form of this project's own.
pub mod CheckReport
