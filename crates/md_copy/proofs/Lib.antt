-- Which calls of a device failed, over several steps of a rebuild.
pub mod Failing
-- What a plan says, and where its sources stand.
pub mod Plans
-- A pass over devices that were lent.
pub mod Fills
-- What is stored beside the data, and what that leaves as it was.
pub mod Stored
-- What the target holds of the array.
pub mod Held
-- From the call to the moment at which a pass may be planned.
pub mod Ready
-- Passes, one after another.
pub mod Passing
-- Chunks that could not be read come to lists, and the lists are stored.
pub mod Listings
-- A rebuild by its steps: how it begins, and what it answers.
pub mod Steps
-- What a rebuild that is done makes of its target.
pub mod Done
-- A rebuild as a list of events.
pub mod Leads
-- What stands after a rebuild that is refused.
pub mod Refusals
-- The passes of a rebuild, as plans one after another.
pub mod PassLemmas
-- What is known of a rebuild before anything is copied.
pub mod TableLemmas
-- A salvage, which loses sectors and no chunk for a sector.
pub mod SalvageLemmas
-- What holds of every salvage by its steps.
pub mod SalvageLaws
