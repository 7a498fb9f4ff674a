-- A member as contracts see it, but for its device.
pub mod View
-- Facts of the members that are kept, of one or of a list.
pub mod Members
-- Where a chunk may be read, found by going through a list of members.
pub mod Permitting
-- A member's own fields of its superblock, as they are stored next: those that were read, but for what they say of the bad
-- block log. That is this project's own.
pub mod OwnFields
-- What is kept in memory of a member that was read.
pub mod Kept
-- How members are remembered: what those that were read have to be, and what is found by going through those that are
-- kept, in a list.
pub mod Remembering
-- The marks that are kept of a member once a sector of its bitmap is stored.
pub mod StoredMarks
-- What is kept in memory of a device that left, and is taken back.
pub mod TakingBack
-- What is kept in memory of a new device that comes in as a spare, and which member's bitmap it goes by.
pub mod Spares
-- What is kept in memory of a member that was rebuilt, and comes into sync: its list, and its own fields (this project's own).
pub mod Enrolling
-- Sets of the array's sectors, and the lists of a member to which such sectors are added, or of which they are taken.
pub mod SectorLists
-- How many entries a member's log takes for a list that is not made.
pub mod Entries
-- What an array's superblock and its members say of device numbers and roles.
pub mod Membership
-- All of a member but its data, stored on its device.
pub mod OnDevices
