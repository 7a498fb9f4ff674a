-- What a crash leaves.

-- What a crash leaves where one device alone is written: of a member that is rebuilt, what another such change leaves at its end.
pub mod AloneChanged
-- What a crash leaves within the write of an event: devices that the event might leave at its end, or that a torn write leaves.
pub mod AsFailed
-- What a crash within a step leaves.
pub mod AtSteps
-- A request that is in flight lies within the array, and what is asked of a write of its bytes, the model asks.
pub mod DataInFlight
-- A member that came into sync, and what a crash within that call leaves of it, once its superblock is written.
pub mod Enrolled
-- A superblock that ends within its first sector is read by that sector.
pub mod FirstSector
-- A write of marks or of a log that halts the mirror, and that a crash left done or not done.
pub mod HaltedWrites
-- What a crash leaves within a call is what one leaves between two calls, or in the midst of a write of data.
pub mod LeftAtCrashes
-- What is read of devices goes by what stands on them.
pub mod LeftContents
-- A superblock that ends within its first sector is written over zeros: the write is done or is not.
pub mod OverZeros
-- What a crash leaves of a device that comes in or comes back is read by its first sector.
pub mod ReadAs
-- What a crash leaves within a call by which a member that is rebuilt tells of it, the write of its superblock might leave that failed.
pub mod Spoiled
-- A crash within a copy of sectors leaves some of them copied: those are events, one after another.
pub mod CopyCrashes
-- What a crash leaves within a whole call, a crash of a run leaves.
pub mod CallCrashes
-- A member that `re_add` has taken back, and what a crash within that call leaves of it.
pub mod TakenBack
-- What a device tells of crashes after a call that is a list of events, it tells of one of them.
pub mod ToldCrashes
-- What a crash within `add` leaves.
pub mod WithinAdd
-- A crash within `store_log` is before it or after it, where the log changes in its first sector alone.
pub mod WithinLog
-- What a crash within a `re_add` leaves that is refused, or whose write fails.
pub mod WithinReAdd
-- What a crash leaves within `admit` or `checkpoint`, by which a member that is rebuilt tells of it.
pub mod WithinTarget
