-- What a client and a server say to each other over a source and a sink of bytes.
pub mod Exchanges
pub mod RequestsTaken
pub mod Told
pub mod Refusals
pub mod Transmission
pub mod OptionsTaken
pub mod OptionsAnswered
pub mod Sessions
