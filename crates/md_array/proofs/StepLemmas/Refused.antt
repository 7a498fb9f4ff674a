-- Storing something on a member is refused, or its write fails.
use Rattle.std.proofs.Common.{ℕ, refl, inl, inr}
use Rattle.md_members.specs.DeviceWrites.Writes.{Write}
use Rattle.md_kept_members.specs.View.{MemberView}
use Rattle.md_faults.specs.declared.step_fault.StoreFault.{StoreFault}
use Rattle.md_faults.specs.declared.step_fault.StoreFault.TheVariants.{Halted, NotActive, MemberFailed}
use Rattle.md_state.specs.View.{MirrorView}
use Rattle.md_state.specs.Steps.Record.{RefusesInactive}
use Rattle.md_state.specs.Steps.StoreMarks.{RefusesOutOfSync, MayStoreMarks, RefusesMarkSector}
use Rattle.md_state.specs.DiskWrites.{IsFailed}
use Rattle.md_state.specs.Steps.Fail.{AnswersStore}
use Rattle.md_array.specs.Steps.Record.{MayRecord, RefusesRecord, super_write}

pub record_refused : (k : ℕ) (v : MirrorView) (fault : StoreFault) → RefusesInactive k v.array fault → RefusesRecord k v v fault
record_refused k v Halted halted = inl (record { unchanged = refl; reason = halted })
record_refused k v NotActive inactive = record { unchanged = refl; reason = inactive }
record_refused k v (MemberFailed j) never = absurd never

pub record_failed : (k : ℕ) (old new : MirrorView) (m : MemberView) (fault : StoreFault) → MayRecord k old.array m → IsFailed k (super_write old.array m) old.disks new.disks → AnswersStore k old.array new.array fault
    → RefusesRecord k old new fault
record_failed k old new m Halted may disks halts = inr (record { member = m; may = may; halts = record { disks = disks; array = halts } })
record_failed k old new m NotActive may disks never = absurd never
record_failed k old new m (MemberFailed j) may disks fails = (fails.0, record { member = m; may = may; fails = record { disks = disks; array = fails.1 } })

pub store_marks_refused : (k block : ℕ) (v : MirrorView) (fault : StoreFault) → RefusesOutOfSync k v.array fault → RefusesMarkSector k block v v fault
store_marks_refused k block v Halted halted = inl (record { unchanged = refl; reason = halted })
store_marks_refused k block v NotActive out = record { unchanged = refl; reason = out }
store_marks_refused k block v (MemberFailed j) never = absurd never

pub store_marks_failed : (k block : ℕ) (old new : MirrorView) (m : MemberView) (w : Write) (fault : StoreFault) → MayStoreMarks k block old.array m w → IsFailed k w old.disks new.disks → AnswersStore k old.array new.array fault
    → RefusesMarkSector k block old new fault
store_marks_failed k block old new m w Halted may disks halts = inr (record { member = m; write = w; may = may; halts = record { disks = disks; array = halts } })
store_marks_failed k block old new m w NotActive may disks never = absurd never
store_marks_failed k block old new m w (MemberFailed j) may disks fails = (fails.0, record { member = m; write = w; may = may; fails = record { disks = disks; array = fails.1 } })
