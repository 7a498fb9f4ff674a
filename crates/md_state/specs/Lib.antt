-- A mirror as contracts see it: its devices, and what it keeps in memory of the array.
pub mod View
-- Facts of the members of an array, by their indices.
pub mod Members
-- Devices before and after a call.
pub mod DeviceChanges
-- What is kept in memory of the array that the members make.
pub mod Remembered
-- The header that is stored with marks.
pub mod Headers
-- What holds of an array in memory between calls: its members' roles, and its chunks.
pub mod InMemory
-- Requests in flight: the mirror's list of them, what their callers have, and what the model says of both.
pub mod Requests
-- One write to one of a mirror's devices.
pub mod DiskWrites
-- What steps have in common: a refusal, and a write to a member that fails.
pub mod Trying
-- Members that a step of a running mirror refuses.
pub mod OutOfSync
-- What a member lacks of the array.
pub mod Missing
-- Nothing was written: devices may have been read, and some of these reads may have failed.
pub mod Rests
-- The steps, each by its verb: when it may be done, what it changes in memory, and each refusal in its order.
pub mod Steps
