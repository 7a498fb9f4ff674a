-- Passes, one after another.

-- The slots of a stretch, and those that are left.
pub mod StretchSlots
-- A stretch of a pass that was made, and is recorded.
pub mod StretchMade
-- Stretches that are recorded, one after another: which chunks they copied, and which of their slots failed.
pub mod StretchesTold
-- Stretches are made one after another: what holds between two of them, and once no slot is left.
pub mod StretchesGo
-- A pass that was planned and made, and is recorded.
pub mod PassMade
-- What holds once a pass is recorded, and once what failed in it is listed.
pub mod PassRecorded
-- Passes are made one after another: what holds between two of them, and where they end.
pub mod PassesGo
-- What passes leave as it was: the data of all members but the target, the target's beside the chunks that are copied, and all lists but those of the
-- sources that failed.
pub mod PassesKeep
-- What was not copied the target lacks after passes as it did before them.
pub mod PassesLack
-- What a list of passes over a mirror says: what the target holds after it, which chunks were copied, and that they are passes of the array.
pub mod PassesTold
