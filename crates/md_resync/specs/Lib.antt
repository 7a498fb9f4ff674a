-- Which member may give a sector.
pub mod Sources
-- By which steps of the mirror events were done.
pub mod Steps
-- Steps of a mirror are a run of it.
pub mod StepRuns
-- Recovering members say no more that they have marked chunks.
pub mod Telling
-- A whole resync.
pub mod Resyncing
-- What a crash leaves within a whole resync.
pub mod StepCrashes
-- A resync in the life of a mirror.
pub mod InLives
-- Marked chunks are copied, run by run.
pub mod Copying
