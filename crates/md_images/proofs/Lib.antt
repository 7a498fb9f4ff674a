pub mod Listed
pub mod MemPlaces
pub mod LongReads
pub mod Taken
