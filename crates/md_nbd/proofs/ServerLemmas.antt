-- What a source gave, piece by piece.
pub mod Pieces
-- Requests that are taken, or not.
pub mod RequestsEnded
-- Options that are taken, or not.
pub mod OptionsEnded
-- Replies that are put out.
pub mod ToldReplies
-- Requests, as they are taken and answered one after another.
pub mod Exchanged
-- Options, as they are taken and answered one after another.
pub mod OptionsInTurn
