-- What a command answers where images are not opened.
pub mod Faults
-- What a command puts out.
pub mod Output
