-- What is known of a rebuild before anything is copied.
pub mod Table
-- From the call to the moment at which a pass may be planned (this project's own order).
pub mod Readying
-- The passes of a rebuild, in stretches, and what is listed between them.
pub mod Passes
-- How a rebuild ends: its target comes into sync, or how far it came is recorded (this project's own).
pub mod Ending
-- What is told of a rebuild, and the fault of one that found no memory.
pub mod Preparing
-- A rebuild step by step (this project's own).
pub mod Rebuilding
-- What a rebuild makes of its target, in plain terms, whatever the steps were (this project's own).
pub mod Rebuilt
-- What stands after a rebuild that is refused, fault by fault, in plain terms (this project's own).
pub mod Refused
-- A rebuild as a list of events of the array's model (this project's own).
pub mod RebuildEvents
-- The passes of a rebuild, as plans one after another.
pub mod PassLaws
-- What a gate is told of a rebuild.
pub mod Told
-- A salvage, which loses sectors and no chunk for a sector (this project's own).
pub mod Salvaging
