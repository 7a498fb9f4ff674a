-- How many entries of a list begin before a sector.
pub mod EntriesBelow
-- Sets whose neighbouring runs are united, run by run.
pub mod RunsUnited
-- Lost sectors are listed with those between them, and nothing of a chunk that is not missing.
pub mod LostWidened
-- Lists that are made on trial: each is the only one of its sectors.
pub mod Rooms
-- Which sectors are listed is so where lists, states and the room in the logs are as before.
pub mod SameRoom
-- A run of sectors that the target lacks was written to it: the devices are back.
pub mod RunPut
-- While sectors of the target are filled, the other devices are only read.
pub mod Within
-- A run of sectors that was given, and then written to the target, is held there.
pub mod RunGiven
-- The first of some sectors are read, and written to the target.
pub mod Fronts
-- Sectors of the target are filled, run by run, and those that no member in sync gave are lost.
pub mod Filled
-- The sectors that the target of a salvage holds, it may say that it has.
pub mod HeldSectors
-- How far the target is rebuilt is recorded on it: what it holds it holds still.
pub mod SectorsRecorded
-- A chunk of the target is filled sector by sector.
pub mod ChunkFilled
-- A chunk of the target was filled, and how far the target is rebuilt was recorded, or not.
pub mod ChunkSalvaged
-- Chunks that the pass left are filled, one after another.
pub mod LeftSalvaged
-- One chunk of the target is salvaged: what each step of that asks, and what it says.
pub mod OneChunk
-- One pass over what the target lacks, as the first step of a salvage.
pub mod WholePass
-- Sectors that no member in sync gives come to the lists of all of them in memory, member by member.
pub mod LostNoted
-- Each member in sync is in one of all roles: what is said of the members in these is said of all members in sync.
pub mod EveryRole
-- Lists of members in sync grow by sectors that nobody gives, in memory and on the devices: what the target holds beside these it holds still.
pub mod ListsGrown
-- Lost sectors are listed on all members in sync, and the target comes into sync without them, or it does not.
pub mod EnrolsLost
-- A salvage from the moment at which its pass may be planned: the pass, the chunks that it left, and what is listed.
pub mod ReadiedSalvage
-- Where a salvage ended after it was readied, its target is a member still.
pub mod SalvageStopped
-- What holds of a salvage by what it answers.
pub mod SalvageAnswered
