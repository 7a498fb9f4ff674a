-- The target comes into sync after its passes, or it does not.
use Rattle.std.specs.Prelude.{◌≡◌, ℕ, ◌<◌, ◌≤◌, ◌&&◌, false, List, [], length, vec_capacity}
use Rattle.md_bitmap.specs.Marks.{Bitmap, is_set}
use Rattle.md_kept_members.specs.View.{MemberView}
use Rattle.md_cert.specs.declared.planned.Planned.{Planned}
use Rattle.md_state.specs.Steps.Enrol.{HasFullLogChunks, HasRoomInLogChunks}
use Rattle.md_state.specs.Missing.{is_missing}
use Rattle.md_state.specs.View.{MirrorView}
use Rattle.md_array.specs.Steps.Enrol.{EnrolsChunks, FailsToEnrolChunks, MayEnrol}
use Rattle.md_copy.specs.declared.beginning.fault.RebuildFault.{RebuildFault}
use Rattle.md_copy.specs.declared.beginning.fault.RebuildFault.TheVariants.{LogFull, NoMemory, TargetFault}
use Rattle.md_copy.specs.Table.Orphans.{IsSetOf, IsSubset, is_in, uncopied_chunks}
use Rattle.md_copy.specs.declared.ending.orphans.Orphans.{Orphans}
use Rattle.md_copy.specs.declared.rebuilt.Rebuilt.{Rebuilt}

-- No chunk is an orphan yet, of so many, and there is room to list all.
pub record AreNoOrphans (count : ℕ) (orphans : Orphans) : Type 0 where
  pub marks : orphans.marks.chunks ≡ count
  pub none : (c : ℕ) → is_set orphans.marks.bytes c ≡ false
  pub empty : orphans.chunks.items ≡ []
  pub room : count ≤ vec_capacity orphans.chunks

-- The target's list needs more room than its log has, and nothing was written for it.
pub record HasNoRoom (target : ℕ) (copied orphans : Bitmap) (old new : MirrorView) : Type 0 where
  pub unchanged : new ≡ old
  pub full : HasFullLogChunks target copied orphans old.array

-- The target's list needs more room than its log has, and nothing was written for it. Of the chunks that were
-- copied these are left to be recorded.
pub record LacksOwnRoom (target : ℕ) (copied orphans after : Bitmap) (old new : MirrorView) : Type 0 where
  pub unchanged : new ≡ old
  pub full : HasFullLogChunks target copied orphans old.array
  pub left : IsSubset after copied

-- Memory was refused as the target was to come into sync, and nothing was written for it: its log has room for its list. Of the chunks that were
-- copied these are left to be recorded.
pub record LacksMemoryToEnrol (target : ℕ) (copied orphans after : Bitmap) (old new : MirrorView) : Type 0 where
  pub unchanged : new ≡ old
  pub room : HasRoomInLogChunks target copied orphans old.array
  pub left : IsSubset after copied

-- why it does not
abbrev pub RefusesFilledTarget : ℕ → Bitmap → Bitmap → MirrorView → MirrorView → RebuildFault → Type 0
RefusesFilledTarget target copied orphans old new (LogFull k) = (k ≡ target) × HasNoRoom target copied orphans old new
RefusesFilledTarget target copied orphans old new NoMemory = (new ≡ old) × HasRoomInLogChunks target copied orphans old.array
RefusesFilledTarget target copied orphans old new TargetFault = FailsToEnrolChunks target copied orphans old new
RefusesFilledTarget target copied orphans old new fault = ⊥

-- The chunks with which it comes into sync: of those that it lacks still, the ones that were copied, and the others, the orphans. Of those that
-- were copied it lacks still such as are marked, or lie after one that was not.
pub record AreSets (copied kept orphans : Bitmap) (chunks : List ℕ) (v : MirrorView) (m : MemberView) : Type 0 where
  pub kept_are : (c : ℕ) → c < v.array.marks.chunks → is_set kept.bytes c ≡ (is_missing v.array m c && is_set copied.bytes c)
  pub orphans_are : IsSetOf v.array (is_in chunks) orphans
  pub chunks_are : chunks ≡ uncopied_chunks v.array m copied

-- The target may come into sync with these sets.
pub record HasSets (target : ℕ) (copied kept orphans : Bitmap) (chunks : List ℕ) (v : MirrorView) : Type 0 where
  pub may : MayEnrol target kept orphans v
  pub sets : AreSets copied kept orphans chunks v may.member

-- The target comes into sync, and this is told of it and of these plans.
pub record EnrolsCopied (target : ℕ) (plans : List Planned) (copied : Bitmap) (old new : MirrorView) (told : Rebuilt) : Type 0 where
  pub kept : Bitmap
  pub orphans : Bitmap
  pub has : HasSets target copied kept orphans told.orphans.items old
  pub enrols : EnrolsChunks target kept orphans old new
  pub passes_are : told.passes ≡ length plans
  pub plans_are : told.plans.items ≡ plans

-- The target does not come into sync, though it has its sets.
pub record EndsWithSets (target : ℕ) (copied : Bitmap) (old : MirrorView) (Why : Bitmap → Bitmap → Type 0) : Type 0 where
  pub kept : Bitmap
  pub orphans : Bitmap
  pub chunks : List ℕ
  pub has : HasSets target copied kept orphans chunks old
  pub why : Why kept orphans

-- The target does not come into sync, and of the chunks that were copied these are left.
abbrev pub FailsCopied : ℕ → Bitmap → Bitmap → MirrorView → MirrorView → RebuildFault → Type 0
FailsCopied target copied after old new (LogFull k) = (k ≡ target) × EndsWithSets target copied old (λ kept orphans. LacksOwnRoom target kept orphans after old new)
FailsCopied target copied after old new NoMemory = EndsWithSets target copied old (λ kept orphans. LacksMemoryToEnrol target kept orphans after old new)
FailsCopied target copied after old new TargetFault = EndsWithSets target copied old (λ kept orphans. FailsToEnrolChunks target kept orphans old new)
FailsCopied target copied after old new fault = ⊥
