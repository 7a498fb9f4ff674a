-- The command that adds a device.
pub mod Adding
-- The command that compares the members in sync.
pub mod Checking
-- The command that fails a member.
pub mod Failing
-- What a command puts out as a JSON object.
pub mod Objects
-- The command that plans the rebuild of a member.
pub mod Planning
-- The command that takes a device back.
pub mod ReAdding
-- The input of a write is read.
pub mod ReadingInput
-- The command that rebuilds a member.
pub mod Rebuilding
-- The command that removes a member.
pub mod Removing
-- An array is resynced: by a command of its own, or because another one needs it.
pub mod Resyncing
-- The command that rebuilds a member, and lists bad sectors, and not their chunks.
pub mod Salvaging
-- The resync before a salvage.
pub mod SettingAside
-- The command that stops an array.
pub mod Stopping
-- The length of an input that is told before it is read.
pub mod ToldLength
-- The command that writes to an array.
pub mod Writing
-- An input that tells its length is written piece by piece.
pub mod WritingPieces
