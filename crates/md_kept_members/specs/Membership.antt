-- The numbers of devices, and their entries in the roles of an array's superblock as the event count rises.
pub mod Numbers
-- The roles that members take, and those that are free.
pub mod Roles
-- What the array's superblock becomes as a device comes in.
pub mod Joining
-- What a device that left says of the array that it comes back to.
pub mod FormerMember
