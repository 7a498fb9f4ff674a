-- Lemmas on a list whose blocks are gone through.
pub mod Blocks
