-- What is said of each signature.
pub mod Texts
-- Magic numbers, and when one stands on a device.
pub mod Magics
-- The magic numbers of each signature.
pub mod Table
-- The partition table of the PC.
pub mod Partitions
-- When a device bears a signature.
pub mod Bearing
-- What a test of a device tells.
pub mod Reading
-- What is found on a device.
pub mod Finding
