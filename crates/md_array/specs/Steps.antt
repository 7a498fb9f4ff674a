-- The steps, each by its verb: what it does with a device and in memory, each refusal in its order, and the word that ties it to its event.

-- A new device comes in as a spare: it is laid out, and stands last.
pub mod Add
-- A spare is admitted: its superblock puts it in a role, where it is recovering.
pub mod Admit
-- A recovering member records how far it is rebuilt.
pub mod Checkpoint
-- A copy of a run of sectors is the model's events, one a sector.
pub mod CopyData
-- A member that was rebuilt comes into sync: its marks are stored, its log, and last its superblock (this project's own order).
pub mod Enrol
-- An enrolment as events: the member is prepared, and then it comes into sync by one write (this project's own).
pub mod EnrolEvents
-- A member that is failed by a call, as an event of the model.
pub mod Fail
-- A member that is being rebuilt gets data, while its device is lent (this project's own).
pub mod Fill
-- The devices are lent, for a rebuild or a check, and come back (this project's own).
pub mod Lend
-- A recovering member is to say no more that it has data which are about to change.
pub mod LowerOffset
-- The list of a member in sync grows, in memory alone.
pub mod NoteBad
-- The array is known to be resynced, or no longer.
pub mod NoteResynced
-- A device that left is taken back: it is read as a member, and then its superblock is written.
pub mod ReAdd
-- A member's superblock is stored.
pub mod Record
-- The superblock of a member that is rebuilt is stored, whose failure leaves the member as it was (this project's own).
pub mod RecordTarget
-- A member that leaves, as an event of the model.
pub mod Remove
-- The list of a member in sync is stored in its log.
pub mod StoreLog
