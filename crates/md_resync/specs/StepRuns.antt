-- Steps of a mirror are a run of it.
use Rattle.std.specs.Prelude.{List, ◌++◌}
use Rattle.md_state.specs.View.{MirrorView}
use Rattle.md_array.specs.Consistency.{IsConsistent}
use Rattle.md_array.specs.InTurn.{AllOf, Requests}
use Rattle.md_array.specs.Worlds.{AreHonest}
use Rattle.md_laws.specs.ReadInTurn.{IsNoFailedRecord}
use Rattle.md_laws.specs.Runs.{MirrorRun, Moment}
use Rattle.md_resync.specs.Steps.{MirrorStep, StepsLead, events_of_steps}

-- From any moment of a mirror the first of such steps are a run, and the others go on from where it ends: so the laws over runs
-- speak of a crash within the next of them.
abbrev pub StepsAreRuns : Type 0
StepsAreRuns =
    (steps more : List MirrorStep) (t : Moment) (new : MirrorView) (after : Requests) → StepsLead t.mirror t.requests (steps ++ more) new after
    → AllOf IsNoFailedRecord (events_of_steps steps) → AreHonest t.mirror.disks → IsConsistent t.mirror
    → (last : Moment) × MirrorRun t (events_of_steps steps) last × AreHonest last.mirror.disks × IsConsistent last.mirror × StepsLead last.mirror last.requests more new after
