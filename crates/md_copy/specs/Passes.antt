-- The sources of a plan: the members from which its chunks are read.
pub mod RebuildSources
-- The target gets chunks, each from a member that serves it. No other device is written.
pub mod Filling
-- What a recovering target holds of the array, as long as it is copied from members that are in sync.
pub mod Held
-- A pass over a mirror in stretches, each of which is recorded.
pub mod Stretches
-- Chunks that could not be read are listed as bad on their sources, and the lists are stored.
pub mod Listing
-- A rebuild's passes over a mirror, step by step.
pub mod Passing
