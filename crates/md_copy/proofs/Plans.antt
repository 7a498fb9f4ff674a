-- What a plan says, and where its sources stand.

-- Where a device stands among all but the target's.
pub mod Beside
-- The sources of a plan as they are chosen, role by role.
pub mod Chosen
-- The rows of what failed, slot by slot.
pub mod FailedRows
-- Lists of devices as contracts see them.
pub mod Lists
-- What a plan says of a chunk: it is one that the member lacks, and another member may give it.
pub mod PlanChunks
-- Each slot of a plan names a member in sync that lists no sector of the slot's chunk.
pub mod Planned
-- What makes a member a source, and what a pass may ask of all sources.
pub mod SourcesChosen
