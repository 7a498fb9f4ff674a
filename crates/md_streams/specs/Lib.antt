-- What a sink takes.
pub mod Sink
-- What is put out, and what is told.
pub mod Putting
-- What callers see of a writer as a sink.
pub mod Output
-- What callers see of a buffered sink.
pub mod Buffered
-- What a source gives.
pub mod Source
-- The front of a buffer is filled.
pub mod FrontFilled
-- What callers see of a reader as a source.
pub mod Input
-- How a name is shown on standard error.
pub mod ShownNames
-- Which sectors were not given in the way in which they were read.
pub mod Gaps
-- How much standard error is told.
pub mod Messages
-- What a line of an input answers.
pub mod Answer
-- What was read of one.
pub mod Heard
-- What a terminal is shown and asked.
pub mod Terminal
-- What is said of a rebuild that goes on.
pub mod GoingOn
