-- What an opening makes of devices: the world that a run starts from, also after a crash and after an interrupted open.
pub mod Openings
-- Lists of events, and lives.
pub mod Runs
-- What a crash leaves.
pub mod Crashes
