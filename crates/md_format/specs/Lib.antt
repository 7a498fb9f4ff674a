-- Fields of a block of bytes, by their place.
pub mod Fields
-- Refusals in a stated order.
pub mod FirstFault
