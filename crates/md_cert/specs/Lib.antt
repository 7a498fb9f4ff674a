-- Assignments of chunks to sources, and the fewest rounds that any of them has.
pub mod Assignments
-- Plans of a table, and what a certificate shows of them.
pub mod Plans
-- Masks of sources.
pub mod Sources
-- Chunks, and the sources that may give them.
pub mod Tables
-- What can be wrong with a plan and its certificate, and in which order that is looked for.
pub mod Verdicts
