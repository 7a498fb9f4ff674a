-- The marks of a bitmap's sector are copied one by one.
pub mod BlockCopied
-- Sectors of chunks are taken from a list, or added to it, chunk by chunk.
pub mod ChunksListed
-- How many entries a list takes, by going through its sectors.
pub mod EntryCounts
-- What a list has of the sectors of a chunk, and below the first and past the last.
pub mod ListedParts
-- There is a list of each set of sectors that can be decided.
pub mod ListsFound
-- What is kept of the members that were read.
pub mod Kept
-- Members by their indices, and what is found by going through them.
pub mod Members
-- What an array's superblock and its members say of device numbers and roles.
pub mod MembershipLemmas
-- All of a member but its data, stored on its device.
pub mod OnDeviceLemmas
-- Sets of the array's sectors as tests, and lists to which such sectors are added.
pub mod SectorSets
