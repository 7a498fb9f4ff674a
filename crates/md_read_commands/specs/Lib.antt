-- What is read of an array that is not resynced is what a read gives after a resync.
pub mod AsResynced
-- Sectors of the array are read and put out with zeros in the place of those that nobody gave.
pub mod Filling
-- A device of which the first sectors stand in memory.
pub mod Fronted
-- The gaps of one piece or request, before they are noted beside earlier ones.
pub mod Holes
-- A sector is read from another member than the one from which a resync would copy it, or from one whose superblock was made in memory.
pub mod Others
-- Sectors of the array are read and put out piece by piece.
pub mod Pieces
-- The command that reads an array.
pub mod Reading
-- An array is served to a client of the NBD protocol.
pub mod Serving
-- A member whose superblock was made in memory, since its own can't be read.
pub mod StandIn
-- How sectors of an array are read.
pub mod Ways
