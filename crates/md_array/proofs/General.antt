-- What is said of lists, tests and answers, of no array in particular.

-- What a call says where it is known whether it failed.
pub mod Answered
-- A list with one more element at its end.
pub mod Appended
-- Devices that do what they answer do so after a call.
pub mod Honesty
-- Lists by their indices.
pub mod Indices
-- An array is degraded exactly where fewer members are in sync than there are raid disks.
pub mod InSyncCounted
-- Sectors are read from a member's device.
pub mod ReadingData
-- A list with one element replaced.
pub mod Replaced
-- A mirror whose devices were only read is consistent as before.
pub mod Resting
-- A list with one element taken out.
pub mod TakenOut
-- Tests that come out one way.
pub mod Tests
