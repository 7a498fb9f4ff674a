-- How the faults of devices that are opened as an array, or made one, are told.
pub mod Openings
-- How the faults of steps of an array are told.
pub mod Steps
-- How the faults of whole calls on an array are told.
pub mod Calls
-- How the faults of commands are told.
pub mod Commands
