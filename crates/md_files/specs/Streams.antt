-- Text in which no character hides.
pub mod CodedText
-- What callers see of a sink of JSON.
pub mod CodedJson
-- What callers see of a writer beside a line.
pub mod Cleared
-- One of two sinks.
pub mod Destination
