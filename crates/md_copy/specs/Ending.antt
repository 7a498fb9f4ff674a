-- How far the target is rebuilt is recorded on it before a fault is answered (this project's own).
pub mod Leaving
-- The target comes into sync after its passes, or it does not.
pub mod Enrolled
