-- Objects as names and values, and their text.
pub mod Objects
-- What one member's image holds.
pub mod OneImage
-- An opened array.
pub mod WholeArray
-- A rebuild, before it and after it.
pub mod Rebuilds
-- The object of a check.
pub mod CheckObject
-- The object of a command that is refused.
pub mod RefusalObject
