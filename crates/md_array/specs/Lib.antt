-- What holds of a mirror between its calls: opening gives it, and each call keeps it.
pub mod Consistency
-- How many members are in sync.
pub mod InSyncCount
-- Devices and the array that is kept of them fit one another, so that marks may be stored on the members.
pub mod Fits
-- The mirror as the array's world: each device's bytes are read for what assembly, marks and data are.
pub mod Worlds
-- What an opening would read of the members' devices is what the mirror keeps of them.
pub mod ReadAsKept
-- The steps as events of the model: what each makes of the world, where devices do what they answer.
pub mod Events
-- Whole calls: the events that a call does, one after another (this project's own).
pub mod InTurn
-- A write of a superblock by which a member that is rebuilt tells of it failed, and left any (this project's own).
pub mod Spoiling
-- Devices are opened as a mirror: what is read of them, which marks are stored, what it gives, and why it is refused.
pub mod Open
-- The steps, each by its verb: what it does with a device and in memory, each refusal in its order, and the word that ties it to its event.
pub mod Steps
-- What a mirror ends as, where a `&mut` to its devices is returned.
pub mod Lends
