-- The write of a member's superblock.
pub mod Superblocks
-- The writes that store all of a member but its data, and that these leave its data.
pub mod Storing
-- One write to one of several devices.
pub mod OneOfMany
