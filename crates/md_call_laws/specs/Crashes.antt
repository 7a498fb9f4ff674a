-- When the members in sync of a mirror agree.
pub mod Agreement
-- What a crash leaves within a whole call that a write halted.
pub mod HaltedCalls
-- What the next opening finds where a crash left other bytes in a write that halted the mirror.
pub mod TornWrites
-- What a crash leaves within `add` and `re_add`, before they are done.
pub mod JoiningCrashes
-- Devices that left by `remove`, at an opening after a later crash.
pub mod Departed
-- What a first opening leaves that was interrupted.
pub mod FirstOpening
