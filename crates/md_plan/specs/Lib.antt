-- A number of rounds that some sources show to be needed.
pub mod Bounds
-- How many chunks of each mask each source holds, and what it is to move some.
pub mod Cells
-- The chunks that show that one round less is too few.
pub mod Certificates
-- Classes of chunks with equal masks.
pub mod Classes
-- Chunks and rounds given out by the counts.
pub mod Slots
-- Alternating paths from the overloaded sources.
pub mod Search
