-- Theorems about crashes and resyncs, beyond those of `md_laws`.
pub mod Crashes
-- Theorems about rebuilds.
pub mod Rebuilds
