-- What an opening makes of devices: the world that a run starts from, also after a crash and after an interrupted open.

-- The writes of a bitmap stay in its area, also where one of them fails.
pub mod BitmapArea
-- The states of the world's members are those of assembly.
pub mod Found
-- The first opening of the devices of a new array, all of whose chunks are marked, begins a life.
pub mod Fresh
-- An interrupted open leaves the devices of a mirror as they were left.
pub mod HalfOpened
-- The marks of the world are those that its members in sync store.
pub mod Marked
-- A mirror that was opened is an opened world.
pub mod Opened
-- What the opening changed: all marks are stored where the bitmap was not accepted, and all else is as it was.
pub mod OpenedFrom
-- The members of the world, and the superblock that it goes by.
pub mod Present
-- What the fields of the next array read of the devices that a crash left is what those of the mirror before read.
pub mod Reopened
