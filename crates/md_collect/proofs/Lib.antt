pub mod Search
pub mod Counts
pub mod Lists
pub mod Crashes
mod Faults
-- The memory of reports.
mod Memory
-- What reads members side by side.
pub mod WorkerLemmas
