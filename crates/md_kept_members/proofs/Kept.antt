-- What is kept of the members that were read.

-- The greatest events at which marks were cleared, found member by member.
pub mod Clearing
-- What is kept of each member, one after the other.
pub mod Keeping
-- Which offsets count, once it is known when marks were last cleared.
pub mod Offsets
-- Whether members in sync hold the same, by the next marked chunk and by how many they are.
pub mod Resyncing
-- Marks that are united, chunk by chunk and member by member.
pub mod Uniting
