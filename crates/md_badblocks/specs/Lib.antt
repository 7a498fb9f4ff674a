-- Sets of sectors as lists of runs.
pub mod Runs
-- What the searches and edits of rising lists say.
pub mod Edits
-- The bad block log of a member, as md.c has it.
pub mod Log
