-- The bytes of a member's parts, at the places that the bytes of its superblock give.
pub mod Raw
-- Other places of a device where a superblock of its set may stand.
pub mod Elsewhere
