-- Members that are rebuilt: what is stored of them, what their events keep, and that they are the model's.

-- What one device of a member that is rebuilt holds changes, and nothing in memory: the mirror stays consistent, and so its world.
pub mod OneDevice
-- A member that is rebuilt gets data in chunks that it lacks: that is the model's event.
pub mod FilledEvent
-- The superblock of a member that is rebuilt could not be stored: where the write left the old one, the new one or none, that is the
-- model's event.
pub mod RecordTargetEvent
-- A write of a superblock failed on a member that is rebuilt, and left any: that is the model's event.
pub mod SpoiledEvent
-- The bitmap and the log of a member that is rebuilt are stored: that is the model's event.
pub mod PreparedEvent
-- What stands on a device once all of a member but its data is stored there.
pub mod MemberStored
-- The list of a member that comes into sync is what its log lists, once the log is stored.
pub mod LogListed
-- An array in which a member takes a role: what holds of it in memory.
pub mod RoleTaken
-- A write of a new superblock failed on a member that is rebuilt: that is one of two of the model's events.
pub mod TargetLeft
-- A spare is admitted by the write of its superblock: that is the model's event.
pub mod AdmitEvent
-- What `admit` answers, by what the calls in it do.
pub mod Admit
-- An array with a member that came into sync: what holds of it in memory, and of the member's device.
pub mod EnrolledArray
-- A member that was rebuilt comes into sync: the mirror stays consistent, and an opening reads what is kept.
pub mod MemberEnrolled
-- A member doesn't come into sync: a write failed, or it was refused. The mirror stays consistent.
pub mod EnrolUnstored
-- What `enrol` answers, by what was stored on the device.
pub mod Enrol
-- The mirror in the midst of an enrolment: marks and log are stored, and the superblock is not.
pub mod InBetween
-- Where a member holds what the members in sync hold, the device of one of them does not list the sector.
pub mod CopiedContent
-- A member that comes into sync holds what the members in sync hold, in each sector that it does not list then.
pub mod HeldContent
-- What an enrolment asks of chunks, said of their sectors.
pub mod ByChunks
-- A member comes into sync by the write of its superblock: its device and the array's world then.
pub mod EnrolledWorld
-- A member is prepared, and comes into sync by the write of its superblock: those are the model's events.
pub mod EnrolEvent
-- An enrolment fails by the write of its superblock: the member is prepared, and spoiled, and those are the model's events.
pub mod EnrolSpoils
-- What a crash leaves of a member's device within the writes of an enrolment: its bitmap and its log have changed at most, or all of them are
-- stored, and the superblock has changed at most.
pub mod CutBefore
-- A member has another offset in memory: the mirror stays consistent, and its world has that offset.
pub mod OffsetMoved
-- A recovering member records how far it is rebuilt: that is the model's event.
pub mod CheckpointEvent
-- What `checkpoint` answers, by what the calls in it do.
pub mod Checkpoint
-- A chunk is listed in memory: the mirror stays consistent, and that is the model's event.
pub mod NoteBad
-- The log of a member in sync is stored: the mirror stays consistent, and that is the model's event.
pub mod StoreLog
