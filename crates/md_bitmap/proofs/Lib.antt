pub mod Limits
pub mod Accepted
pub mod Encoded
pub mod Numbers
pub mod Bits
pub mod Padded
pub mod ByteRuns
pub mod Blocks
