pub mod Words
pub mod Numerals
pub mod Faults
pub mod Lines
pub mod Written
pub mod Exact
pub mod OwnCommand
