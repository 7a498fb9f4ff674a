-- What is said of lists, tests and answers, of no array in particular.
pub mod General
-- Devices are opened as a mirror.
pub mod Openings
-- Members that are rebuilt: what is stored of them, what their events keep, and that they are the model's.
pub mod Rebuilding
-- The steps: what each keeps, and that it is its event of the model.
pub mod StepLemmas
-- The bytes on a mirror's devices, as the model's world.
pub mod Worlds
