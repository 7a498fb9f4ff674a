-- The steps, each by its verb: when it may be done, what it changes in memory, and each refusal in its order.

-- A new device comes in as a spare.
pub mod Add
-- A spare is admitted: it takes a role, and is recovering from then on.
pub mod Admit
-- A request begins: it is entered, and its chunks are marked in memory.
pub mod Begin
-- A recovering member records how far it is rebuilt.
pub mod Checkpoint
-- A mark goes from memory.
pub mod ClearIdle
-- Sectors are copied from a member in sync to another, as a resync does (sync_request and sync_request_write of raid1.c in the
-- kernel's md driver; the order of sources, and that marks are stored first, are this project's own).
pub mod CopyData
-- A member that was rebuilt comes into sync.
pub mod Enrol
-- A member fails: by a call, or since a write to it failed.
pub mod Fail
-- A request that each member in sync has is no longer in flight.
pub mod Finish
-- Data are about to change of which a recovering member's superblock says that it has them.
pub mod LowerOffset
-- An active array becomes clean, as at a `stop`.
pub mod MakeClean
-- A chunk in which a member could not be read is listed as bad, in memory alone (rdev_set_badblocks of the kernel's md driver; that
-- its log is stored apart is this project's own).
pub mod NoteBad
-- A device comes in as the last member.
pub mod NoteJoined
-- A device that left is taken back in its former role.
pub mod ReAdd
-- Sectors of the array are read from a member.
pub mod ReadData
-- Whether the superblock of a member may be stored.
pub mod Record
-- A member that is not in use leaves.
pub mod Remove
-- The event count of the array rises, and a member fails (this project's own rules, after md_update_sb and md_error).
pub mod Rise
-- The log of a member was stored as its list is.
pub mod StoreLog
-- A sector of a member's bitmap is stored, as the marks in memory are.
pub mod StoreMarks
-- A member gets a request's bytes.
pub mod WriteMember
