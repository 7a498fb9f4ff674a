pub mod Devices
pub mod Laid
pub mod Least
pub mod Read
pub mod Taken
pub mod HalfLaid
