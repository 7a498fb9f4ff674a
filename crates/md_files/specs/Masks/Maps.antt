-- The text of a map as lines and fields.
pub mod Lines
-- Numbers as a map writes them.
pub mod Numbers
-- What a line of a map says.
pub mod Rows
-- What a map says.
pub mod Map
-- What was read of a map, line by line.
pub mod Reading
-- The map that is written for an image of which these sectors are lacking.
pub mod Writing
-- The command that made a map.
pub mod OwnCommand
