-- What a member lacks, and where it may be read.
pub mod Sources
-- Which members may be rebuilt (this project's own rule, after md_start_sync and remove_and_add_spares of md.c).
pub mod Targets
-- Whether a rebuild of a member may begin, and the first reason why it may not (this project's own order).
pub mod Beginning
-- Sets of chunks, and those that a member lacks and that were not copied: the orphans.
pub mod Orphans
