-- Neighbouring runs of a set are united, so that it takes fewer entries of a log.
pub mod United
-- Sectors that are listed beside the lost ones.
pub mod Widened
-- Sectors that the target holds, and sectors that no member in sync gave.
pub mod Sectors
-- A run of sectors is written to the target.
pub mod Putting
-- The target gets sectors, run by run.
pub mod Filling
-- How far the target is rebuilt is recorded on it before a fault is answered.
pub mod Leaving
-- Which sectors are listed so that each log has room for them.
pub mod Fitting
-- Sectors that no member in sync gives are listed, and the target comes into sync without them.
pub mod Losing
-- What is listed is found out, and the target comes into sync without that.
pub mod Enrolling
-- A salvage step by step.
pub mod Steps
-- What a salvage makes of its target, in plain terms, whatever the steps were (this project's own).
pub mod Salvaged
-- What stands after a salvage that is refused, in plain terms, whatever the steps were (this project's own).
pub mod Refused
-- A salvage as a list of events of the array's model.
pub mod SalvageEvents
