-- What the NBD protocol's messages are, as bytes, and what a server answers to each.
pub mod Export
pub mod NbdRequests
pub mod SimpleReplies
pub mod NbdTasks
pub mod Options
pub mod OptionReplies
pub mod Haggling
pub mod Handshake
pub mod Messages
-- The server's side of the NBD protocol over any source and any sink of bytes, and over any store of sectors.
pub mod Server
