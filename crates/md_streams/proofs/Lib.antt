pub mod Puts
pub mod Fronts
mod Heard
