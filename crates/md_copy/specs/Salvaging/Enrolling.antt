-- What is listed is found out, and the target of a salvage comes into sync without that, or it does not (this project's own).
use Rattle.std.specs.Prelude.{◌≡◌, ◌⊎◌, ℕ, ◌<◌, ◌&&◌, List}
use Rattle.md_badblocks.specs.declared.run.Run.{Run}
use Rattle.md_bitmap.specs.Marks.{Bitmap, is_set}
use Rattle.md_kept_members.specs.View.{MemberView}
use Rattle.md_state.specs.Members.{IsMember}
use Rattle.md_state.specs.Missing.{AreMissing, is_missing}
use Rattle.md_state.specs.View.{MirrorView}
use Rattle.md_copy.specs.Salvaging.Fitting.{IsFitting}
use Rattle.md_copy.specs.Salvaging.Losing.{EnrolsWithout, FailsWithout}
use Rattle.md_copy.specs.Table.Orphans.{IsSubset}
use Rattle.md_copy.specs.declared.beginning.fault.RebuildFault.{RebuildFault}
use Rattle.md_copy.specs.declared.beginning.fault.RebuildFault.TheVariants.{NoMemory}

-- Of the chunks that were copied these are kept: the target lacks them still.
pub record KeepsLacked (target : ℕ) (copied kept : Bitmap) (v : MirrorView) : Type 0 where
  pub now : MemberView
  pub there : IsMember v.array target now
  pub kept_are : (c : ℕ) → c < v.array.marks.chunks → is_set kept.bytes c ≡ (is_missing v.array now c && is_set copied.bytes c)

-- These sectors are listed where the lost ones have to be, and the target comes into sync without them.
pub record EnrolsSalvaged (target : ℕ) (copied : Bitmap) (lost : List Run) (old new : MirrorView) (listed : List Run) : Type 0 where
  pub kept : Bitmap
  pub keeps : KeepsLacked target copied kept old
  pub missing : Bitmap
  pub fits : IsFitting target missing lost old.array listed
  pub enrols : EnrolsWithout target missing listed old new

-- Memory is refused for what is to be listed, or the target does not come into sync. Some of the chunks that are kept count as copied still.
abbrev pub EndsSalvaged : ℕ → Bitmap → Bitmap → List Run → MirrorView → MirrorView → RebuildFault → Type 0
EndsSalvaged target copied after lost old new fault =
    (kept : Bitmap) × KeepsLacked target copied kept old × IsSubset after kept
    × (((fault ≡ NoMemory) × (new ≡ old)) ⊎ ((missing : Bitmap) × ((m : MemberView) → IsMember old.array target m → AreMissing old.array m missing) × (listed : List Run)
    × IsFitting target missing lost old.array listed × FailsWithout target missing listed old new fault))
