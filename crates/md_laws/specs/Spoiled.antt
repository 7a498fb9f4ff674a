-- What a crash leaves within a call by which a member that is rebuilt tells of it, whatever stands in place of the superblock.
use Rattle.std.specs.Prelude.{Bool, ◌≡◌, ◌⊎◌, ℕ, true, List, map}
use Rattle.md_kept_members.specs.View.{MemberView}
use Rattle.md_state.specs.Members.{IsMember}
use Rattle.md_state.specs.Missing.{is_rebuilt}
use Rattle.md_state.specs.View.{MirrorView}
use Rattle.md_array.specs.Consistency.{IsConsistent}
use Rattle.md_array.specs.Steps.Enrol.{Enrols, FailsToEnrol, MayEnrolSectors}
use Rattle.md_array.specs.Steps.EnrolEvents.{FailsAtSuper, Prepares}
use Rattle.md_array.specs.Steps.Record.{Records}
use Rattle.md_array.specs.Steps.RecordTarget.{LeavesUnrecorded}
use Rattle.md_array.specs.Spoiling.{SpoilsTarget}
use Rattle.md_array.specs.Worlds.{AreHonest}
use Rattle.md_laws.specs.Left.{IsTargetCall}
use Rattle.md_laws.specs.CrashesWithin.{MayAllBeLeft}

-- A write of the superblock that failed might leave this.
pub record IsLeftSpoiled (k : ℕ) (old : MirrorView) (left : List (List ℕ)) : Type 0 where
  pub other : MirrorView
  pub spoils : SpoilsTarget k old other
  pub contents : map (λ d. d.content) other.disks ≡ left

-- What a crash leaves within `admit`, `checkpoint` or the record of a member that is rebuilt, a failed write
-- of its superblock might leave, whatever comes of the write. The crash is one after the event `SpoilTarget`,
-- and the next opening has to leave the device out. (Where the superblock reads as before the call or as
-- after it, or none is read, it may be there: `IsLeftByCrash`.)
abbrev pub CrashesAsSpoiled : Type 0
CrashesAsSpoiled =
    (k : ℕ) (m : MemberView) (old new : MirrorView) (left : List (List ℕ)) → AreHonest old.disks → IsMember old.array k m → is_rebuilt m.state ≡ true
    → IsTargetCall k old new ⊎ (Records k old new ⊎ LeavesUnrecorded k old new) → MayAllBeLeft old.disks new.disks left → IsLeftSpoiled k old left

-- A crash within an `enrol` that is done is one after a preparing, or after that and a failed write of the
-- superblock.
abbrev pub CrashesAtEnrolAsSpoiled : Type 0
CrashesAtEnrolAsSpoiled =
    (k : ℕ) (copied lost : ℕ → Bool) (old new : MirrorView) (left : List (List ℕ)) → IsConsistent old → AreHonest old.disks → MayEnrolSectors k copied lost old
    → Enrols k copied lost old new → MayAllBeLeft old.disks new.disks left
    → (mid : MirrorView) × Prepares k old mid × ((map (λ d. d.content) mid.disks ≡ left) ⊎ IsLeftSpoiled k mid left)

-- A crash within an `enrol` of which the write of the superblock fails is one after a preparing, or after that
-- and such a write.
abbrev pub CrashesAtFailedEnrolAsSpoiled : Type 0
CrashesAtFailedEnrolAsSpoiled =
    (k : ℕ) (copied lost : ℕ → Bool) (old new : MirrorView) (left : List (List ℕ)) → IsConsistent old → AreHonest old.disks → MayEnrolSectors k copied lost old
    → (f : FailsToEnrol k copied lost old new) → FailsAtSuper f → MayAllBeLeft old.disks new.disks left
    → (mid : MirrorView) × Prepares k old mid × ((map (λ d. d.content) mid.disks ≡ left) ⊎ IsLeftSpoiled k mid left)
