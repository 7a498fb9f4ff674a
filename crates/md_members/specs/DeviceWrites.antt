-- Writes to a device in their order: what stands on it where one of them fails, and what a crash leaves.
pub mod Writes
-- The writes that store a bitmap.
pub mod Bitmaps
