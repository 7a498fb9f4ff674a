-- Writes that wait in memory, and what is done of the mirror.
pub mod Waiting
-- An array is served to a client that may write to it.
pub mod Writable
-- What a client is told of.
pub mod Told
-- The calls that a session is made of, and the content that they make.
pub mod Calls
-- By which calls a client's request is done.
pub mod Serving
-- What a client is told of in a whole session.
pub mod Sessions
-- That what is asked of a session can be met.
pub mod FirstSessions
-- What of it the array holds at the end of a session, and after that.
pub mod WholeSessions
