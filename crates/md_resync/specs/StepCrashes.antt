-- What a crash leaves within a whole resync: it comes within one of its steps, from the mirror before that step to the one after it.
use Rattle.std.specs.Prelude.{◌≡◌, ◌⊎◌, List, [], ◌∷◌}
use Rattle.md_model.specs.Events.{Event}
use Rattle.md_state.specs.View.{Disk, MirrorView}
use Rattle.md_array.specs.InTurn.{AllOf, Requests}
use Rattle.md_laws.specs.Left.{IsLeftByCrash, contents_of}
use Rattle.md_laws.specs.Runs.{MirrorRun, Moment}
use Rattle.md_laws.specs.CallCrashes.{AtMoments}
use Rattle.md_laws.specs.CrashesWithin.{MayAllBeLeft}
use Rattle.md_resync.specs.Resyncing.{IsOfResync}
use Rattle.md_resync.specs.Steps.{MirrorStep, StepsInTurn, StepsLead, events_of_steps}

-- an event of a resync, or the one by which a resync that was broken off notes that the array is not resynced
abbrev pub IsResyncing : Event → Type 0
IsResyncing Event.Unresynced = Unit {0}
IsResyncing e = IsOfResync e

-- The crash came within one of the steps. While devices are only read, it leaves what stands there before the step and after the read.
abbrev pub CrashesInSteps : (steps : List MirrorStep) (old : MirrorView) (before : Requests) (Then : MirrorView → Requests → Type 0) → StepsInTurn old before steps Then → List Disk → Type 0
CrashesInSteps [] old before Then t left = ⊥
CrashesInSteps (MirrorStep.Single e ∷ steps) old before Then t left = MayAllBeLeft t.0.disks t.1.disks (contents_of left) ⊎ CrashesInSteps steps t.1 t.2 Then t.8 left
CrashesInSteps (MirrorStep.CopyRun r ∷ steps) old before Then t left = MayAllBeLeft t.0.disks t.1.disks (contents_of left) ⊎ CrashesInSteps steps t.1 before Then t.5 left

-- What is left is a crash of a run of events of a resync: they lead from this moment to one at which a crash
-- leaves it.
pub record IsCrashOfRun (t : Moment) (left : List Disk) : Type 0 where
  pub events : List Event
  pub steps : AllOf IsResyncing events
  pub at : Moment
  pub run : MirrorRun t events at
  pub is_left : IsLeftByCrash at left

-- At any moment of a life what a crash within a resync leaves is a crash of a run, whatever comes of the
-- resync, and whatever was left. (Of a write that halts the mirror this is said before it.)
abbrev pub CrashesAreOfRuns : Type 0
CrashesAreOfRuns =
    AtMoments (λ t.
    ((steps : List MirrorStep) (new : MirrorView) (after : Requests) (leads : StepsLead t.mirror t.requests steps new after) → AllOf IsResyncing (events_of_steps steps)
    → (left : List Disk) → CrashesInSteps steps t.mirror t.requests (λ m r. (m ≡ new) × (r ≡ after)) leads left → IsCrashOfRun t left))
