-- The members in sync of a resynced array agree, as after a resync.
pub mod Agreement
-- What stands on the devices after a write that failed, a crash within such a write might have left.
pub mod ToldAfter
-- A write that halted the mirror, and that was left done or not done.
pub mod HaltedCalls
-- A halted mirror over devices of which one has other bytes in a write's range.
pub mod HaltedOver
-- The members in sync that an opening finds of such devices were so before.
pub mod AfterHalt
-- A copy that halted the mirror, with any bytes in its range.
pub mod TornCopies
-- A member that is alone in sync, of whose device other bytes were left than an opening read there.
pub mod LoneMember
-- A sector of the bitmap of the only member in sync, with any bits.
pub mod LoneMarks
-- A log of it, with any bytes.
pub mod LoneLog
-- What a crash leaves within `add` and `re_add`, before they are done.
pub mod JoiningCrashes
-- An opening with devices beside those that were left, no newer than the opening before.
pub mod Beside
-- A member that has no role leaves, and counts as one that an opening left out.
pub mod Departed
-- A first opening that was interrupted.
pub mod FirstOpening
