-- Lists of events, and lives.

-- A call's events are a run of the mirror.
pub mod CallRuns
-- The members in sync of a mirror hold the content along each run of it.
pub mod ContentRuns
-- The content that the members in sync of a mirror hold, over its openings.
pub mod MirrorContents
-- A device that is taken back as it was left lies behind the content by what is marked.
pub mod Joined
-- A member that failed differs from the content only in marked chunks.
pub mod LeftBehind
-- The log of a member that is rebuilt lists what its list in memory has, as long as the log is known, if it was so at the opening.
pub mod Lists
-- A life of a mirror is one of the model, so that what always holds of the model holds of the mirror.
pub mod MirrorLives
-- A run of a mirror is a run of the model, so that the model's laws hold of it.
pub mod MirrorRuns
-- An opening misreads no member in sync whose superblock is stored as it is kept.
pub mod Misread
-- What holds of a mirror at each moment of a run, and of a life.
pub mod Moments
-- The offset that a device tells of is no greater than the one that is kept of its member, if it was so at the opening.
pub mod Offsets
-- Lists of events with reads between them, joined and carried along.
pub mod ReadTurns
-- What recovering members hold goes along each life, and with it a content.
pub mod Recovering
-- A mirror whose devices were only read is as good as before.
pub mod Rests
-- An opening with devices that come back before any data was let through is a start.
pub mod Returned
-- What superblocks of recovering members say that they have, they have, at each moment of each life.
pub mod SureRuns
-- A mirror of one member that is opened, has a run of two events and is opened again has a life.
pub mod SmallLife
-- As long as no log is stored, an opening misreads no more members than those that are spoiled.
pub mod Unlogged
