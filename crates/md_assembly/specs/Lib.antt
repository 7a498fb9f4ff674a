-- What array members make (analyze_sbs of the kernel's md driver).
pub mod Assembled
-- Why members make no array, and in which order that is found, which is this project's own.
pub mod Faults
-- Facts of members by their indices in the list.
pub mod Listed
-- The state of a member by the freshest superblock and its own.
pub mod States
