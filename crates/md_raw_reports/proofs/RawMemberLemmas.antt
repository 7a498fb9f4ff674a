-- What was found is found where more calls may have failed.
pub mod Found
-- Marks that are counted sector by sector.
pub mod Counted
-- What was read was read where more calls may have failed.
pub mod Later
