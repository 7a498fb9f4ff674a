-- Devices are opened as a mirror: what is read of them, which marks are stored, what it gives, and why it is refused.

-- Marks are stored on members: which bytes are written, and what stands on the devices after it.
pub mod Marks
-- Devices are read as members, one after another.
pub mod Members
-- What opening devices as a mirror gives: the array that they make, whose marks are stored where they have to be.
pub mod Opened
-- Why devices are not opened as a mirror.
pub mod Refusals
