-- An `enrol` by itself of which a write of the bitmap or of the log failed, and what a crash within it leaves.
use Rattle.std.specs.Prelude.{Bool, ℕ, List}
use Rattle.md_state.specs.View.{Disk, MirrorView}
use Rattle.md_array.specs.Consistency.{IsConsistent}
use Rattle.md_array.specs.Steps.Enrol.{FailsToEnrol, MayEnrolSectors}
use Rattle.md_array.specs.Steps.EnrolEvents.{Prepares}
use Rattle.md_laws.specs.Left.{IsLeftByCrash, IsLeftWithin}
use Rattle.md_laws.specs.Runs.{Moment}
use Rattle.md_copy.specs.RebuildEvents.{FailsAtMarks}

-- An `enrol` of which a write of the bitmap or of the log failed is the event `Prepare`, whatever that write
-- left: a member that is prepared, in part.
abbrev pub UnfinishedEnrolsPrepare : Type 0
UnfinishedEnrolsPrepare =
    (k : ℕ) (copied lost : ℕ → Bool) (old new : MirrorView) → IsConsistent old → MayEnrolSectors k copied lost old
    → (f : FailsToEnrol k copied lost old new) → FailsAtMarks f → Prepares k old new

-- A crash at any moment within such an `enrol` is one of a run, and the laws over lives speak of it.
abbrev pub CrashesUnfinishedEnrol : Type 0
CrashesUnfinishedEnrol =
    (t : Moment) (k : ℕ) (copied lost : ℕ → Bool) (new : MirrorView) → IsConsistent t.mirror → MayEnrolSectors k copied lost t.mirror
    → (f : FailsToEnrol k copied lost t.mirror new) → FailsAtMarks f
    → (left : List Disk) → IsLeftWithin t new left → IsLeftByCrash t left
