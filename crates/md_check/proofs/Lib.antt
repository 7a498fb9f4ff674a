-- Sectors of a buffer of which a part was read.
mod SectorsRead
-- A sector lies in one chunk.
mod ChunkSectors
-- A read of sectors of a chunk that failed, before other calls and after them.
mod ChunkFaults
-- Sets of chunks in which members differ, as more sectors are looked at.
mod Differing
-- A comparison, as more sectors are looked at.
mod Compared
-- Lists that lose their first element, one after another.
mod TakenInTurn
-- Sets of runs that are built run by run.
mod RunByRun
-- Windows that were read: what the buffers show is what the devices show.
mod WindowsRead
-- Readers stand for the members of a mirror.
mod MemberReaders
-- What was read of a sector is compared with the first that shows it.
mod WindowCompared
-- Pairs of members, one after another.
mod PairsInTurn
-- A list that was lent as a slice comes back as the slice was left.
mod LentSlices
-- The first member is read a window ahead, and its bytes change places with those of the window before.
mod LedAhead
-- What a gate was told, over several reads.
mod SectorsTold
