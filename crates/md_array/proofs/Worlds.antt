-- The bytes on a mirror's devices, as the model's world.

-- The bad set that is kept of a member is what its log lists.
pub mod Bad
-- A write of sectors that are copied fails: that is the model's event, whatever it left of them.
pub mod CopyFailed
-- The device of a member, before and after the opening.
pub mod Device
-- The entry of a member without a role becomes that of a failed device, in the array and in its world.
pub mod EntryDropped
-- A member that failed by a write is the model's failed one, whatever the write left of its device.
pub mod Failed
-- The members in sync of an array are those of its world.
pub mod InSync
-- A device comes in as the last member of an array whose count rose: the array stays consistent.
pub mod Joined
-- What a device's log lists, by the superblock that stands there, and by the one that is kept.
pub mod Listed
-- Each recovering member surely has no more than what is before a sector, from which on data are about to change: the array stays
-- consistent, and its world is lowered.
pub mod Lowered
-- A member of an array that was opened, by its device before and after.
pub mod Member
-- What stands apart from an area of a device stays when the area is written: the superblock, the data, the log and the bitmap.
pub mod Outside
-- The parts of a member stand apart on its device: a write to one of them leaves the others as they were.
pub mod PartsApart
-- What an honest device holds of a member that was read from it.
pub mod Read
-- What an opening would read of the devices stays what is kept of the members, by a write or without one.
pub mod ReadAsKept
-- The device of a member that was read, beside what is kept of it.
pub mod ReadMember
-- It is kept whether the array is resynced: that is the model's event.
pub mod ResyncMarked
-- The count of an array rises as that of its world does, and the array stays consistent; and when it is not degraded its world
-- is full.
pub mod Risen
-- Each member in sync has the marks of memory stored, as the model has it.
pub mod Noted
-- A sector is copied from a member in sync to another: no more than that sector of its data changes, and that is the model's
-- event.
pub mod SectorCopied
-- What the world shows of a mirror that was opened, member by member.
pub mod Shown
-- The states of assembly are those of the model.
pub mod States
-- A superblock that was read is the one that the world shows.
pub mod Supers
-- A member that is not in sync is taken out of an array, with its device, and out of its world.
pub mod TakenOut
-- A member becomes faulty in the array as it does in its world.
pub mod Without
-- What stands in a bitmap's area once its sectors are written.
pub mod Writes
