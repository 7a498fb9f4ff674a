-- Fields of a block of bytes as they stand.
pub mod RawFields
-- The object of a superblock as it stands.
pub mod RawSuper
-- The object of a bitmap as it stands.
pub mod RawBitmap
-- The object of a bad block log as it stands.
pub mod RawLog
