-- Theorems about crashes and resyncs, beyond those of `md_laws`.
pub mod CrashLemmas
-- Theorems about rebuilds.
pub mod RebuildLemmas
