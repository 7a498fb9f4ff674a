-- Sectors of the array are read from its members.
pub mod Reading
-- They are read as a resync would leave them.
pub mod Unresynced
