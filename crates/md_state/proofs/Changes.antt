-- What a step changes in memory: the event count, roles, requests, marks.

-- An array that is made clean, in memory.
pub mod Cleaned
-- An array whose count rose, and one of whose members became faulty.
pub mod Raised
-- The chunks of a request's sectors.
pub mod RequestChunks
-- A request is entered: what becomes of the array step by step.
pub mod RequestEntered
