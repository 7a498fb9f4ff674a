-- The map file of ddrescue.
pub mod Maps
-- A disk as its copy has it.
pub mod Device
-- Images that are copies of disks, by the maps of what each lacks.
pub mod Images
