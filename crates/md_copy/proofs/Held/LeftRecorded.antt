-- How far a target is rebuilt is recorded on the way out.
use Rattle.std.proofs.Common.{◌≡◌, ◌∙◌, ℕ, ◌<◌, false, length, sym, subst, inl, inr}
use Rattle.std.proofs.lemmas.Bool.{both_ways}
use Rattle.md_bitmap.specs.Marks.{Bitmap, is_set}
use Rattle.md_faults.specs.declared.enrol_fault.TargetFault.{TargetFault as TargetFaults}
use Rattle.md_faults.specs.declared.enrol_fault.TargetFault.TheVariants.{Halted, TargetFault}
use Rattle.md_state.specs.View.{MirrorView}
use Rattle.md_array.specs.Steps.Checkpoint.{MayCheckpoint, RefusesCheckpoint}
use Rattle.md_array.specs.Consistency.{IsConsistent}
use Rattle.md_copy.specs.Ending.Leaving.{RecordsAtEnd}
use Rattle.md_copy.specs.Readying.Ready.{IsRecordable}
use Rattle.md_copy.proofs.Held.HeldChunks.{may_record}

module _ (target : ℕ) (v : MirrorView) (sound : IsConsistent v) (within : target < length v.array.members) (copied : Bitmap) where
  -- where no chunk counts as copied
  pub may_none : (before : Bitmap) → copied.chunks ≡ before.chunks → ((c : ℕ) → c < before.chunks → is_set copied.bytes c ≡ false)
      → (before.chunks ≡ v.array.marks.chunks) × IsConsistent v × (v.array.halted ≡ false → IsRecordable target v) → v.array.halted ≡ false → MayCheckpoint target copied v
  may_none before count none h running =
      may_record target v sound running (h.2 running) within copied (count ∙ h.0)
      (λ c low set. absurd (both_ways (is_set copied.bytes c) (none c (subst (λ n. c < n) (sym h.0) low)) set))

pub left_refused : (target : ℕ) (copied : Bitmap) (v w : MirrorView) (fault : TargetFaults) → RefusesCheckpoint target copied v w fault → RecordsAtEnd target copied v w
left_refused target copied v w Halted h = inl (h.reason, h.unchanged)
left_refused target copied v w TargetFault h = inr (inr h)
