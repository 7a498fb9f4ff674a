-- Chunks that could not be read come to lists, and the lists are stored.

-- What comes of a pass of which slots failed, once they are listed or are not.
pub mod ListingEnds
-- Where the list of a member in sync is stored, whatever fails, its data are as before, and of the others nothing changes but that they are due.
pub mod ListingKeeps
-- Along the passes of a rebuild each list that grew is stored on its device, and stands there to the end.
pub mod ListsKept
-- What the device of a member in sync has of its list once this is stored, and that it stays.
pub mod ListsOn
-- Lists are stored, member by member.
pub mod ListsStored
-- Chunks come to the lists of their sources in memory, slot by slot.
pub mod NotedLists
