pub use Rattle.md_members.specs.DeviceWrites.Writes
-- Where the parts of a new member stand on its device, in sectors.
pub mod Places
-- What a new array demands of its devices (this project's own limits).
pub mod Geometry
-- What a new array's members say (this project's own choice among what md_p.h and md-bitmap.h allow).
pub mod Values
-- What a device says that comes in as a spare of an array.
pub mod Spares
-- How a new member is laid out on its device.
pub mod Layout
-- What is read of a device on which a member was laid out.
pub mod ReadBack
