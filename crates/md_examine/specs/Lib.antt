-- Labelled lines and the values in them: the form of the reports is this project's own.
pub mod Lines
-- The report of a superblock, as text.
pub mod SuperblockReport
-- The report of a bitmap, as text.
pub mod BitmapReport
-- The report of a member's bad blocks, as text: a line for each maximal run, in a form of this project's own.
pub mod BadblocksReport
-- Why a device is not read as a member, as text.
pub mod Members
