-- What the parts of a write have in common: they go on by events of the request, and come to their end or lose a member.
pub mod Progress
-- A whole write.
pub mod Writing
-- What a crash leaves within a whole write, and within a whole `stop`.
pub mod WriteCrashes
