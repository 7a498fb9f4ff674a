-- What an interrupted open leaves: a crash came within it, or one of its writes failed. Its own contract says what that may be.
pub mod HalfOpened
-- Lists of events of a mirror, from its opening on: each is done by a call, as the calls' contracts say (`Does`). Between them
-- devices may be read, and reads may fail: that is no event, and the world stays.
pub mod Runs
-- As long as no log is stored, an opening misreads no more members than those that are spoiled.
pub mod Unlogged
-- What is done by a call that is a list of events.
pub mod WholeCalls
-- Whole calls that read devices: the events that such a call does, one after another, with reads before each and after the
-- last.
pub mod ReadInTurn
-- One opening of a mirror's devices after another: runs, each but the last ended by a crash, and what the next mirror is made
-- of.
pub mod Lives
-- Devices that an opening left out, and that come back at the next one before any data was let through: they may be found in
-- sync, and then another life begins.
pub mod Returning
-- What a crash leaves of a mirror's devices: it comes between two calls or within one, of which its own contract says what may
-- be left (`MayAllBeLeft`).
pub mod Left
-- What a crash within a call leaves of a mirror's devices.
pub mod CrashesWithin
-- What it leaves of a device that comes in or comes back, where the superblocks end within their first sectors.
pub mod ReadAfterCrashes
-- What a crash leaves within a call by which a member that is rebuilt tells of it.
pub mod Spoiled
-- What a crash leaves within the copy of a run of sectors.
pub mod CopyCrashes
-- What a crash leaves within a whole call.
pub mod CallCrashes
-- What a crash leaves within a write that halts the mirror.
pub mod HaltedWrites
-- A life of a mirror of one member: what the laws on lives ask can be met.
pub mod SmallLife
-- What a member that failed still has of the array's content.
pub mod LeftBehind
-- Devices of a new array, all of whose chunks are marked.
pub mod Fresh
-- What the recovering members of a mirror hold of the array's content, over its life.
pub mod Recovering
