-- Devices are opened as a mirror.

-- A mirror that was opened is consistent.
pub mod Consistent
-- Devices are gone through in their order: what changes where the device at an index does.
pub mod DevicesInTurn
-- Devices fit the array that they make.
pub mod Fitting
-- The superblock that is kept of a member tells of its log, where the list that is kept has anything.
pub mod ListTold
-- Marks are stored on one member after another.
pub mod MarksStored
-- Members are read one after another, and their devices stay what they are.
pub mod MembersRead
-- Devices are opened: the members are read, assembled and remembered, and then marks are stored.
pub mod Opened
-- A superblock as it is stored next is the one that was read, but for bit 8 of the feature map and the log's shift.
pub mod OwnFields
-- What the members of an array have in common, where no fault stands in them.
pub mod Sound
-- A member's marks are stored by the writes of its bitmap.
pub mod StoredOn
-- Members that were read, and in which no fault is found, have a bitmap each.
pub mod Whole
