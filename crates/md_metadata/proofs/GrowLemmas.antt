-- What holds of each member below an index.
pub mod Each
-- What stands on a device where its bitmap was put.
pub mod StoredOn
-- Bitmaps are put on one member after another.
pub mod StoredEach
-- A device is not read as a member.
pub mod Refused
-- What the members have that get a bitmap.
pub mod Room
-- A member is read back as it was, with the bitmap.
pub mod ReadBack
-- The members are in sync as they were.
pub mod InSync
