-- The bytes of a device where a member's superblock, bitmap and bad block log stand, as they are.
pub mod RawMemberLemmas
