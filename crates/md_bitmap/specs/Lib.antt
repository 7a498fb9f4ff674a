-- What md-bitmap.c demands of the numbers of a bitmap's header.
pub mod Sound
-- The header of a bitmap (`struct bitmap_super_s` of md-bitmap.h), 256 bytes.
pub mod Header
-- Why bytes are no header of a bitmap, and in which order that is found.
pub mod Faults
-- The chunks of an array, each covered by one bit of its bitmap (md-bitmap.c).
pub mod Chunks
-- Which chunks are marked: bit i of the bitmap stands for chunk i (md-bitmap.c, md-bitmap.h).
pub mod Marks
-- A bitmap in sectors of 512 bytes, as it stands on a device (md-bitmap.h).
pub mod Sectors
