-- Parts of a whole call: each goes on by events of the chain, comes to its end, or loses a member.
pub mod Going
-- Marks and superblocks are stored on the members, whatever requests are in flight.
pub mod Storing
-- The list of a member in sync is stored, in its log, and its superblock tells of it.
pub mod StoringLists
-- Marks go from memory, one after another.
pub mod Clearing
-- A device that left comes back, and lacks what was marked since, or all.
pub mod ComingBack
-- A whole stop.
pub mod Stopping
-- What a part of a whole call answers of a step that is refused, and `stop` of a part.
pub mod Faults
-- Recovering members are to say no more that they have data which are about to change, one after another.
pub mod Lowering
-- A write-intent bitmap for an array that has none.
pub mod Grow
