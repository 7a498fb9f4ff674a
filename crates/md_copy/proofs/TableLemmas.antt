pub mod Covered
pub mod LeftOver
pub mod Observed
pub mod Rows
pub mod Served
pub mod SetsMade
