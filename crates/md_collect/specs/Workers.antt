-- What a share of a board stands for.
pub mod Tally
-- How many chunks a worker reads in a turn.
pub mod Batches
-- The reports of a queue that wait for the collector, and memory for further ones.
pub mod Waiting
-- A queue: a source, and the chunks that it reads one after another.
pub mod Queues
-- What a gate is told of reads.
pub mod Gates
