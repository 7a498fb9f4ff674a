-- Marks go from memory, one after another.
use Rattle.std.specs.Prelude.{◌≡◌, ℕ, true, false, not, ◌&&◌, ◌==◌}
use Rattle.md_model.specs.Events.{Event}
use Rattle.md_bitmap.specs.Marks.{is_set}
use Rattle.md_state.specs.View.{ArrayView, MirrorView}
use Rattle.md_state.specs.Members.{is_degraded}
use Rattle.md_state.specs.Steps.MakeClean.{IsIdle}
use Rattle.md_metadata.specs.Going.{LeadsBy}

abbrev pub IsClearing : Event → Type 0
IsClearing (Event.ClearIdle c) = Unit {0}
IsClearing e = ⊥

-- nothing is in flight, and the array is resynced and not degraded
pub record MayClearAll (a : ArrayView) : Type 0 where
  pub idle : IsIdle a
  pub resynced : a.resynced ≡ true
  pub full : is_degraded a ≡ false

-- Nothing but marks of the array changed, and nothing of the devices.
pub record ChangesMarksAlone (old new : MirrorView) : Type 0 where
  pub goes : LeadsBy IsClearing old new
  pub disks : new.disks ≡ old.disks
  pub chunks : new.array.marks.chunks ≡ old.array.marks.chunks
  pub array : new.array ≡ record old.array { marks = new.array.marks }

-- a chunk has no mark any more
pub record ClearsMark (chunk : ℕ) (old new : MirrorView) : Type 0 where
  pub marks_alone : ChangesMarksAlone old new
  pub bits : (c : ℕ) → is_set new.array.marks.bytes c ≡ (not (c == chunk) && is_set old.array.marks.bytes c)

-- No chunk has a mark any more.
pub record ClearsAll (old new : MirrorView) : Type 0 where
  pub marks_alone : ChangesMarksAlone old new
  pub none : (c : ℕ) → is_set new.array.marks.bytes c ≡ false
