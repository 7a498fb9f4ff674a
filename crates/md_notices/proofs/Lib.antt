pub mod LostLists
pub mod LostRuns
pub mod Members
pub mod SectorCounts
-- Signatures on a device.
pub mod SignatureLemmas
-- What a device holds before `create` or `add` overwrites it, for the warning.
pub mod HeldLemmas
-- The chunks that no member in sync gives whole, chunk by chunk, member by member and run by run.
pub mod UngivenLists
-- A test of the numbers below a bound, as a loop makes it.
pub mod Below
