pub mod CommandLine
pub mod Members
pub mod Numbers
pub mod Suffix
