-- The object of a superblock.
pub mod SuperblockObject
-- The object of a bitmap.
pub mod BitmapObject
-- The object of a member's bad blocks.
pub mod BadblocksObject
