pub mod Counts
pub mod Going
pub mod Leading
pub mod Lowered
pub mod ClearedMarks
pub mod Steps
pub mod StoredMembers
pub mod StoredSectors
pub mod StoredRecords
pub mod StoredLists
pub mod Stopped
pub mod StaleFlag
pub mod ComingBack
-- A write-intent bitmap for an array that has none.
pub mod GrowLemmas
