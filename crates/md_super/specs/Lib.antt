-- The checksum of a version 1 superblock (`calc_sb_1_csum` of the kernel's md driver).
pub mod Checksum
-- The bytes that are written for a superblock: its fields at their places.
pub mod Encoding
-- Why bytes are no superblock of this profile.
pub mod Faults
-- What a superblock has fits its fields, group by group.
pub mod Fits
-- The fields of a version 1 superblock (`struct mdp_superblock_1` of md_p.h).
pub mod Format
-- The bad block log that a superblock names.
pub mod Log
-- The superblocks of one array's members: what they share, and what is each member's own (md.c).
pub mod Merge
-- The version 1.2 superblocks that this project takes: those of RAID-1 arrays that are in no reshape.
pub mod Profile
pub use Rattle.md_format.specs.Fields
pub use Rattle.md_format.specs.FirstFault
