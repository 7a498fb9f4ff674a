-- An active array becomes clean, as at a `stop`.
use Rattle.std.specs.Prelude.{◌≡◌, ◌≢◌, ℕ, true, false, not, option_map, slice_get, Option, Some, None}
use Rattle.md_faults.specs.declared.step_fault.CleanFault.{CleanFault}
use Rattle.md_faults.specs.declared.step_fault.CleanFault.TheVariants.{Halted, InFlight, NotResynced, AlreadyClean, EventsFull}
use Rattle.md_state.specs.View.{ArrayView, MirrorView}
use Rattle.md_state.specs.Members.{clean_offset, is_degraded}
use Rattle.md_state.specs.Steps.Rise.{risen, HasSpentEvents}
use Rattle.md_state.specs.Trying.{Refuses, RefusesHalted}

-- the number of the first request in flight, in order of entry
abbrev pub first_number : ArrayView → Option ℕ
first_number a = option_map (λ entry. entry.0) (slice_get a.requests.entries 0)

-- nothing is in flight
pub record IsIdle (a : ArrayView) : Type 0 where
  pub running : a.halted ≡ false
  pub none : first_number a ≡ None

pub record MayMakeClean (a : ArrayView) : Type 0 where
  pub idle : IsIdle a
  pub resynced : a.resynced ≡ true
  pub active : a.shared.resync_offset ≢ clean_offset
  pub unspent : HasSpentEvents a → ⊥

abbrev pub with_clean : ArrayView → ArrayView
with_clean a = record a { shared = record a.shared { resync_offset = clean_offset } }

-- the count rises, and the array is as full after it as before
abbrev pub made_clean : ArrayView → ArrayView
made_clean a = with_clean (risen a (not (is_degraded a)))

pub record MakesClean (old new : MirrorView) : Type 0 where
  pub may : MayMakeClean old.array
  pub disks : new.disks ≡ old.disks
  pub array : new.array ≡ made_clean old.array

-- request `number` is in flight, and is the first
pub record HasInFlight (number : ℕ) (a : ArrayView) : Type 0 where
  pub running : a.halted ≡ false
  pub first : first_number a ≡ Some number

-- members in sync may differ
pub record IsOutOfStep (a : ArrayView) : Type 0 where
  pub idle : IsIdle a
  pub not_yet : a.resynced ≡ false

pub record IsCleanAlready (a : ArrayView) : Type 0 where
  pub idle : IsIdle a
  pub resynced : a.resynced ≡ true
  pub clean : a.shared.resync_offset ≡ clean_offset

-- the count has to rise, and can't
pub record CannotRise (a : ArrayView) : Type 0 where
  pub idle : IsIdle a
  pub resynced : a.resynced ≡ true
  pub active : a.shared.resync_offset ≢ clean_offset
  pub spent : HasSpentEvents a

abbrev pub RefusesClean : MirrorView → MirrorView → CleanFault → Type 0
RefusesClean old new Halted = RefusesHalted old new
RefusesClean old new (InFlight number) = Refuses old new (HasInFlight number old.array)
RefusesClean old new NotResynced = Refuses old new (IsOutOfStep old.array)
RefusesClean old new AlreadyClean = Refuses old new (IsCleanAlready old.array)
RefusesClean old new EventsFull = Refuses old new (CannotRise old.array)
