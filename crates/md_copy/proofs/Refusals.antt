-- What stands after a rebuild that is refused.

-- A write failed that was to store marks or a superblock, and halted the mirror: what is kept is as before, and so are the data.
pub mod Halting
-- What the steps of a rebuild leave as it was, until the target comes into sync.
pub mod Refused
-- What a rebuild that is refused leaves as it was.
pub mod RefusedPasses
-- What a rebuild leaves as it was before a pass, and once it has ended.
pub mod RefusedSteps
-- How far a target is rebuilt, by the passes that were recorded on it.
pub mod RebuiltTo
-- What was listed of passes that were stored stands on the devices, whatever comes after them.
mod Stands
-- What holds of a call by what it answers.
pub mod Told
