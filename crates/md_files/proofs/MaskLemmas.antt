-- The map file of ddrescue.
pub mod MapLemmas
-- A disk as its copy has it.
pub mod DeviceLemmas
-- Images that are copies of disks, by the maps of what each lacks.
pub mod ImageLemmas
