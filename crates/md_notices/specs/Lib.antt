-- Members that were used without those that are in sync now.
pub mod Parting
-- Devices that are not among the members.
pub mod Unnamed
-- Devices that belong to an array.
pub mod Belonging
-- Members that drop out.
pub mod Dropping
-- The lines.
pub mod Lines
-- What is noticed of all members and roles of an array.
pub mod Noticing
-- Signatures on a device.
pub mod Signatures
-- What a device holds before `create` or `add` overwrites it, for the warning.
pub mod Held
-- How many sectors members list as bad, and which list more than before.
pub mod ListedSectors
-- Sectors of an array that no member in sync gives, by their lists.
pub mod LostSectors
-- Chunks that a member lacks and that no member in sync gives whole, by their lists.
pub mod UngivenChunks
-- The line on chunks that no member in sync gives whole.
pub mod UngivenLine
-- Whether a kernel may be given an array as it stands.
pub mod Kernel
