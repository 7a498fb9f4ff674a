pub mod Failed
pub mod Headers
pub mod Refusals
pub mod Untouched
pub mod Wrapped
-- Writes to a device in their order, as of a bitmap and a superblock.
pub mod DeviceWriteLemmas
