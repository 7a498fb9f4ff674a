-- The fault of members that make no array.
pub mod Faults
-- Where the bitmap comes.
pub mod Places
-- What each member gets, and why none gets anything.
pub mod Growth
-- A member gets its bitmap on its device.
pub mod Stored
-- The members get their bitmaps, one after another.
pub mod Growing
-- What is read of the devices then, and the array that they make: it is what it was.
pub mod AsItWas
