-- Each two members in sync of an array.
pub mod Pairs
-- What members show in the sectors of an array, and the chunks in which some two of them differ or each pair.
pub mod Differences
-- Readers: a member's device each, with what is read of it in a window.
pub mod Readers
-- What two members show in a sector of a window.
pub mod Showing
-- What a worker reads of its reader's member.
pub mod Readings
-- What a gate is told of the members that are read.
pub mod Told
-- What a member's worker has to know of it, made before its device is lent.
pub mod Plans
-- Mismatches: the chunks in which two members in sync differ in a sector that neither lists.
pub mod Mismatches
-- The members of a mirror are compared: what comes of it, and why it is refused.
pub mod Checking
