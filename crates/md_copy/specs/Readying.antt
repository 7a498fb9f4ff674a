-- What the members have to know is stored before a rebuild, and after it (this project's own order).
pub mod Storing
-- Before a pass what the members have to know is stored, and a spare is admitted (this project's own order).
pub mod Admission
-- When a rebuild may go on, and when how far it came may be recorded.
pub mod Ready
