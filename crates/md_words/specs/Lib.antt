-- How a command comes from the words.
pub mod Parsing
-- Numbers and sizes that words say.
pub mod Numbers
-- What a command is, and what it may do with the images.
pub mod Asks
-- What clap is told of a command and its options.
pub mod Commands
-- The command line.
pub mod Words
pub use Rattle.clap.specs.Words as ClapWords
