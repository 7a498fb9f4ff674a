-- What the target holds of the array.

-- The sets with which the target comes into sync.
pub mod EnrolSets
-- What the members in sync hold of a content while nothing is in flight, they hold along the events by which marks and superblocks are stored
-- and a spare is admitted.
pub mod HeldAlong
-- What the target holds of the array, it may come into sync with.
pub mod HeldChunks
-- What the target holds of the array it holds after a pass, too, and the chunks that were copied then.
pub mod HeldFilled
-- What the target holds of the array it holds while chunks are listed that it has not: whoever serves one that it has serves it still.
pub mod HeldListed
-- What the target holds of the array it holds once how far it is rebuilt is recorded, and it lacks what it lacked, but for what was copied.
pub mod HeldRecorded
-- How far a target is rebuilt is recorded on the way out.
pub mod LeftRecorded
-- Chunks on a device: where they lie, sector by sector.
pub mod Sectors
