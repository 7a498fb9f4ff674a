-- Whole calls that read devices: the events that such a call does, one after another, with reads before each and after the last.
use Rattle.std.specs.Prelude.{◌≡◌, List, [], ◌∷◌, Option, Some}
use Rattle.md_model.specs.Events.{Event, MemberPart}
use Rattle.md_state.specs.Rests.{Rests}
use Rattle.md_state.specs.View.{MirrorView}
use Rattle.md_array.specs.InTurn.{AllOf, Did, IsInOrder, LeftWhole, Requests}
use Rattle.md_array.specs.Events.{Does}
use Rattle.md_array.specs.Worlds.{AreHonest}
use Rattle.md_laws.specs.Runs.{MirrorRun, Moment}

-- As `InTurn`, but that devices may have been read before each event, and after the last: that is no event, and a read that fails
-- is counted.
abbrev pub ReadInTurn : Option Event → MirrorView → Requests → List Event → (MirrorView → Requests → Type 0) → Type 0
ReadInTurn previous old before [] Then = (rested : MirrorView) × Rests old rested × Then rested before
ReadInTurn previous old before (e ∷ es) Then =
    (rested mid : MirrorView) × (between : Requests) × Rests old rested × IsInOrder previous rested.array e × Did rested before e mid between
    × (AreHonest rested.disks → LeftWhole rested e mid → Does rested before e mid between) × ReadInTurn (Some e) mid between es Then

-- These events lead from the one mirror to the other, with their requests, and devices may be read between
-- them.
abbrev pub LeadsReading : Option Event → MirrorView → Requests → List Event → MirrorView → Requests → Type 0
LeadsReading previous old before es new after = ReadInTurn previous old before es (λ m r. (m ≡ new) × (r ≡ after))

-- none of which something is asked: no write of a superblock that failed, but for one that spoils its member, no enrolment, and no
-- checkpoint
abbrev pub IsNoFailedRecord : Event → Type 0
IsNoFailedRecord (Event.WriteFails k MemberPart.Superblock) = ⊥
IsNoFailedRecord (Event.RecordTargetFails k) = ⊥
IsNoFailedRecord (Event.Enrol k role listed) = ⊥
IsNoFailedRecord (Event.Checkpoint k sure listed) = ⊥
IsNoFailedRecord e = Unit {0}

-- From any moment of a mirror such a call is a run, and ends where the call says.
abbrev pub ReadingCallsAreRuns : Type 0
ReadingCallsAreRuns =
    (es : List Event) (previous : Option Event) (t : Moment) (new : MirrorView) (after : Requests) → LeadsReading previous t.mirror t.requests es new after
    → AllOf IsNoFailedRecord es → AreHonest t.mirror.disks → (last : Moment) × MirrorRun t es last × ((last.mirror ≡ new) × (last.requests ≡ after))
