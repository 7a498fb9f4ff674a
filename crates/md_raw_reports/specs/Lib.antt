-- Fields of a block of bytes as they stand, a line each.
pub mod Fields
-- The faults of a superblock, each by itself: those that stand, whatever others do.
pub mod SuperFaults
-- The report of a superblock as it stands, though it may be refused.
pub mod SuperFields
-- The report of a bitmap's header as it stands, though it may be refused.
pub mod BitmapFields
-- The report of a bad block log as it stands, though it may be refused: its entries by their places.
pub mod LogFields
-- The bytes of a device where a member's superblock, bitmap and bad block log stand, as they are.
pub mod RawMembers
-- What stands on a device though it may be refused, as JSON.
pub mod RawJson
