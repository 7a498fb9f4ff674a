-- A salvage in the life of a mirror is a run.
use Rattle.std.specs.Prelude.{◌≡◌, ℕ, List, None}
use Rattle.md_state.specs.Requests.{AreInFlight}
use Rattle.md_state.specs.View.{Disk, MirrorView}
use Rattle.md_array.specs.InTurn.{AllLeftWhole}
use Rattle.md_laws.specs.CallCrashes.{CrashesIn}
use Rattle.md_metadata.specs.Going.{GoesOn, only_others}
use Rattle.md_metadata.specs.Storing.{IsStoring}
use Rattle.md_copy.specs.RebuildEvents.{IsOfRebuild}
use Rattle.md_copy.specs.Salvaging.Steps.{Salvages}
use Rattle.md_copy.specs.declared.salvaging.salvaged.Salvaged.{Salvaged}
use Rattle.md_call_laws.specs.Rebuilds.RebuildCrashes.{IsCrashEnrolled}
use Rattle.md_call_laws.specs.Rebuilds.RebuildRuns.{AtMomentsWith, RunsTo}
use Rattle.md_call_laws.specs.Rebuilds.RebuiltInLife.{HeldWhatItHad}

-- From any moment on a salvage that is done is a run, up to the mirror in which its target is in sync. So the life goes on with it, and with the content
-- that it had. Of the target it is asked that it held that where it lacked nothing.
abbrev pub SalvageIsARun : Type 0
SalvageIsARun =
    AtMomentsWith (λ t content.
    ((target : ℕ) (told : Salvaged) (new : MirrorView) (h : Salvages target told t.mirror new)
    → HeldWhatItHad target content t.mirror → RunsTo (IsOfRebuild target) t content h.salvages.enrolled))

-- A salvage is a run to the end of the call, too, where what is due then is stored: by these events, of which each write of a superblock that failed left the
-- old superblock, the new one or none.
abbrev pub SalvageRunsOn : Type 0
SalvageRunsOn =
    AtMomentsWith (λ t content.
    ((target : ℕ) (told : Salvaged) (new : MirrorView) (h : Salvages target told t.mirror new)
    → HeldWhatItHad target content t.mirror
    → (records_stored : MirrorView) (g : GoesOn only_others only_others IsStoring h.salvages.enrolled records_stored) (in_flight : AreInFlight h.salvages.enrolled.array t.requests)
    → AllLeftWhole g.events None h.salvages.enrolled t.requests (λ m r. (m ≡ records_stored) × (r ≡ t.requests)) (g.leads None t.requests in_flight)
    → RunsTo (IsOfRebuild target) t content records_stored))

-- A crash while marks and superblocks are stored after the enrolment: the target is in sync.
abbrev pub CrashesStoringSalvaged : Type 0
CrashesStoringSalvaged =
    AtMomentsWith (λ t content.
    ((target : ℕ) (told : Salvaged) (new : MirrorView) (h : Salvages target told t.mirror new)
    → HeldWhatItHad target content t.mirror
    → (records_stored : MirrorView) (g : GoesOn only_others only_others IsStoring h.salvages.enrolled records_stored) (in_flight : AreInFlight h.salvages.enrolled.array t.requests)
    → AllLeftWhole g.events None h.salvages.enrolled t.requests (λ m r. (m ≡ records_stored) × (r ≡ t.requests)) (g.leads None t.requests in_flight)
    → (left : List Disk) → CrashesIn g.events None h.salvages.enrolled t.requests (λ m r. (m ≡ records_stored) × (r ≡ t.requests)) (g.leads None t.requests in_flight) left
    → IsCrashEnrolled target t content left))
