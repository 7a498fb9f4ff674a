-- What stands apart from an area of a device stays when the area is written, a member's data too.
pub mod Beside
-- A member that can be stored on a device can be so on one that is as long.
pub mod Storable
