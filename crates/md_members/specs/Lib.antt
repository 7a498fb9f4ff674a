-- Where the parts of a member stand on its device.
pub mod Areas
-- What reading a whole member gives.
pub mod Members
-- What reading a member of a device gives.
pub mod Reading
-- Writes to a device in their order, as of a bitmap and a superblock.
pub mod DeviceWrites
