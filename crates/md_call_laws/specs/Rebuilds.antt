-- What a rebuild makes of its target in the life of a mirror.
pub mod RebuiltInLife
-- What a crash within a rebuild leaves.
pub mod RebuildCrashes
-- A rebuild in the life of a mirror is a run.
pub mod RebuildRuns
-- A rebuild that ends with a fault.
pub mod RefusedRebuilds
-- Within a pass of a rebuild a crash finds the offset that was stored last.
pub mod LastOffsets
-- An `enrol` by itself of which a write of the bitmap or of the log failed.
pub mod UnfinishedEnrols
-- What a crash within a salvage leaves.
pub mod SalvageCrashes
-- A salvage in the life of a mirror is a run.
pub mod SalvageRuns
