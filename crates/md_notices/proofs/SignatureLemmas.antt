pub mod Devices
pub mod Signs
pub mod Lists
pub mod Bears
pub mod Tables
pub mod Founds
pub mod Anys
