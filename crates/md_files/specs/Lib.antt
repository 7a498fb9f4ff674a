-- A device in a file, as contracts see it.
pub mod File
-- A sink into a new file in which blocks of zeros become holes, and why such a file is not made.
pub mod Sparse
-- Sinks between what commands put out and the streams of the system.
pub mod Streams
-- Copies of disks that lack sectors.
pub mod Masks
