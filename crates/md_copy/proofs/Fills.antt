-- A pass over devices that were lent.

-- A pass over devices, as it is seen of the mirror that has lent them.
pub mod Carried
-- What a pass over the devices that were lent is for the mirror that has them back.
pub mod Filled
-- Devices that were lent for a pass come back, and what the mirror has then.
pub mod LentBack
-- An element that left its list and came back to its place.
pub mod Returned
