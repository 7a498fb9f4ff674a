-- The steps: what each keeps, and that it is its event of the model.

-- A write to a member fails, and the member with it or the mirror: what holds of the mirror between its calls holds after that.
pub mod AfterFailure
-- What `begin` and `clear_idle` keep, and which events they are, whatever they answer.
pub mod BeginKeeps
-- A request begins, as the model has it.
pub mod Begin
-- A mark goes from memory, as the model has it.
pub mod ClearIdle
-- Sectors of one write, of one member's data, are copied one after another: the views in between are made of what the device
-- was and what it is.
pub mod CopiedRun
-- Sectors go to another member: one write of its device, whichever events that is.
pub mod CopyData
-- A request makes the count rise, or not: what it asks, and what stays the same.
pub mod CountedAtBegin
-- A write of a request's bytes to a member fails: that is the model's event, whatever it left of their sectors.
pub mod DataFailed
-- A member gets a request's bytes: no more than those sectors of its data changes, and that is the model's event.
pub mod WriteMember
-- The device of a member that is taken back: nothing but its superblock changes there, and an opening would read what is kept of it.
pub mod DeviceTakenBack
-- Devices that were lent and have come back: the mirror is consistent again, and an opening reads what is kept.
pub mod Lend
-- A write of a part of a member failed, and made its member faulty or halted the mirror: which write it was.
pub mod FailedParts
-- A request that is finished leaves the list of those in flight, and nothing else changes: that is the model's event.
pub mod Finish
-- The requests in flight, by the mirror's list of them.
pub mod InFlight
-- A superblock is written to a member that is rebuilt, or its write fails: the log on the device lists what the list in memory has, if it did
-- before.
pub mod ListStays
-- A recovering member surely has no more than what is before a sector: that is the model's event.
pub mod LowerOffset
-- An active array becomes clean, as the model has it.
pub mod MakeClean
-- A sector of a member's bitmap that is stored is the model's event, and the mirror stays consistent.
pub mod StoreMarks
-- A write of a sector of marks fails: that is the model's event, whatever it left of the sector.
pub mod MarksFailed
-- A member that is failed by a call is the model's failed one, and the mirror stays consistent.
pub mod Fail
-- A member that is removed leaves the model's world with its device.
pub mod Remove
-- A device that left comes in again: the mirror stays consistent, and requests in flight stay its own.
pub mod ReAdd
-- A write goes to one device of a mirror, and its member is changed in memory: what stays of the mirror, and its world.
pub mod OneMember
-- One write to the device of a member.
pub mod OneWrite
-- Storing something on a member is refused, or its write fails.
pub mod Refused
-- Marks in memory, requests and resync_offset change, and no member does: what comes of the world, and that the mirror stays
-- consistent.
pub mod RemarkedWorlds
-- A list that changed in a range was changed in the range's first part, and then in the rest: so was one that was written.
pub mod RunsOfSectors
-- A new device comes in as a spare: the mirror stays consistent, and requests in flight stay its own.
pub mod Add
-- A new device comes in as a spare: that is the model's event.
pub mod AddEvent
-- The device on which a spare was laid out: what stands there, and what an opening would read.
pub mod SpareLaidOut
-- A mirror stays consistent, and its requests its own, where storing something on a member is refused or fails; and where it
-- fails, that is the model's event.
pub mod StoresKeep
-- A write of a superblock fails: where it left the old superblock, the new one or none, that is the model's event.
pub mod SuperFailed
-- A list on a device that grows to no more than the list in memory.
pub mod ListGrown
-- A member's superblock that is stored is the model's event, and the mirror stays consistent.
pub mod Record
-- A device that left comes in again: that is the model's event.
pub mod ReAddEvent
-- Lists of events of a call, joined and carried along.
pub mod Turns
-- What `write_member` and `finish` keep, and which events they are, whatever they answer.
pub mod WriteKeeps
-- A request's bytes go to a member.
pub mod WriteToMember
-- A device that is read, written once, and then stands behind the others.
pub mod WrittenLast
-- The superblock of a member that is rebuilt could not be stored: the mirror stays consistent.
pub mod RecordTarget
