-- A mark goes from memory.
use Rattle.std.specs.Prelude.{◌≡◌, ℕ, ◌+◌, ◌-◌, ◌*◌, true, false, not, ◌&&◌, ◌==◌, min, Option, Some, None}
use Rattle.md_inflight.specs.Inflight.{first_meeting}
use Rattle.md_bitmap.specs.Marks.{Bitmap, is_set}
use Rattle.md_faults.specs.declared.step_fault.ClearFault.{ClearFault}
use Rattle.md_faults.specs.declared.step_fault.ClearFault.TheVariants.{Halted, NotResynced, Degraded, Busy, NotMarked}
use Rattle.md_state.specs.View.{ArrayView, MirrorView}
use Rattle.md_state.specs.Members.{is_degraded}
use Rattle.md_state.specs.Trying.{Refuses, RefusesHalted}

-- the number of the first request in flight that has a sector of these
abbrev pub first_in_flight : ArrayView → ℕ → ℕ → Option ℕ
first_in_flight a start sectors = first_meeting (λ e. e.start) (λ e. e.sectors) a.requests.entries start sectors

-- the number of the first that has a sector of the chunk
abbrev pub first_touching : ArrayView → ℕ → Option ℕ
first_touching a chunk =
    first_in_flight a (chunk * a.chunks.sectors) (min ((chunk + 1) * a.chunks.sectors) a.chunks.size - chunk * a.chunks.sectors)

-- the array runs, is resynced and is not degraded
pub record IsReady (a : ArrayView) : Type 0 where
  pub running : a.halted ≡ false
  pub resynced : a.resynced ≡ true
  pub full : is_degraded a ≡ false

pub record MayClear (chunk : ℕ) (a : ArrayView) : Type 0 where
  pub ready : IsReady a
  pub idle : first_touching a chunk ≡ None
  pub marked : is_set a.marks.bytes chunk ≡ true

-- the marks without one
pub record IsWithout (chunk : ℕ) (old new : Bitmap) : Type 0 where
  pub chunks : new.chunks ≡ old.chunks
  pub bits : (c : ℕ) → is_set new.bytes c ≡ (not (c == chunk) && is_set old.bytes c)

pub record Clears (chunk : ℕ) (old new : MirrorView) : Type 0 where
  pub may : MayClear chunk old.array
  pub disks : new.disks ≡ old.disks
  pub left : IsWithout chunk old.array.marks new.array.marks
  pub array : new.array ≡ record old.array { marks = new.array.marks }

pub record IsNotResynced (a : ArrayView) : Type 0 where
  pub running : a.halted ≡ false
  pub not_yet : a.resynced ≡ false

pub record IsDegraded (a : ArrayView) : Type 0 where
  pub running : a.halted ≡ false
  pub resynced : a.resynced ≡ true
  pub degraded : is_degraded a ≡ true

pub record IsBusy (chunk number : ℕ) (a : ArrayView) : Type 0 where
  pub ready : IsReady a
  pub busy : first_touching a chunk ≡ Some number

pub record IsUnmarked (chunk : ℕ) (a : ArrayView) : Type 0 where
  pub ready : IsReady a
  pub idle : first_touching a chunk ≡ None
  pub unmarked : is_set a.marks.bytes chunk ≡ false

abbrev pub RefusesClear : ℕ → MirrorView → MirrorView → ClearFault → Type 0
RefusesClear chunk old new Halted = RefusesHalted old new
RefusesClear chunk old new NotResynced = Refuses old new (IsNotResynced old.array)
RefusesClear chunk old new Degraded = Refuses old new (IsDegraded old.array)
RefusesClear chunk old new (Busy number) = Refuses old new (IsBusy chunk number old.array)
RefusesClear chunk old new NotMarked = Refuses old new (IsUnmarked chunk old.array)
