-- Bytes that are put out one after another.
mod Joined
-- Numbers at the front of bytes.
mod NumbersInFront
-- The names that INFO and GO ask for.
mod AskedNames
-- The server's side of the NBD protocol over any source and any sink of bytes, and over any store of sectors.
pub mod ServerLemmas
