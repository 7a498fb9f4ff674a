-- Lists of events with reads between them, joined and carried along.
use Rattle.std.proofs.Common.{◌≡◌, List, [], ◌∷◌, ◌++◌, Option, Some, refl}
use Rattle.md_model.specs.Events.{Event, MemberPart}
use Rattle.md_state.specs.Rests.{Rests}
use Rattle.md_state.specs.View.{MirrorView}
use Rattle.md_array.specs.InTurn.{AllOf, InTurn, LeftWhole, Requests}
use Rattle.md_array.specs.Worlds.{AreHonest}
use Rattle.md_laws.specs.ReadInTurn.{IsNoFailedRecord, ReadInTurn, ReadingCallsAreRuns}
use Rattle.md_laws.specs.Runs.{MirrorRun, Moment, then_as}
use Rattle.md_array.proofs.General.Honesty.{same_honest}
use Rattle.md_laws.proofs.Runs.Rests.{rests_same, rests_then}

-- what holds at the end, weaker
pub read_then : (es : List Event) (previous : Option Event) (old : MirrorView) (before : Requests) (P Q : MirrorView → Requests → Type 0)
    → ((m : MirrorView) (r : Requests) → P m r → Q m r) → ReadInTurn previous old before es P → ReadInTurn previous old before es Q
read_then [] previous old before P Q f t = (t.0, t.1, f t.0 before t.2)
read_then (e ∷ es) previous old before P Q f t = (t.0, t.1, t.2, t.3, t.4, t.5, t.6, read_then es (Some e) t.1 t.2 P Q f t.7)

-- reads before the first event
pub read_first : (es : List Event) (previous : Option Event) (old rested : MirrorView) (before : Requests) (P : MirrorView → Requests → Type 0)
    → Rests old rested → ReadInTurn previous rested before es P → ReadInTurn previous old before es P
read_first [] previous old rested before P rests t = (t.0, rests_then old rested t.0 rests t.1, t.2)
read_first (e ∷ es) previous old rested before P rests t = (t.0, t.1, t.2, rests_then old rested t.0 rests t.3, t.4, t.5, t.6, t.7)

-- one list after another
pub read_on : (es fs : List Event) (previous : Option Event) (old : MirrorView) (before : Requests) (P : MirrorView → Requests → Type 0)
    → ReadInTurn previous old before es (λ m r. (last : Option Event) → ReadInTurn last m r fs P) → ReadInTurn previous old before (es ++ fs) P
read_on [] fs previous old before P t = read_first fs previous old t.0 before P t.1 (t.2 previous)
read_on (e ∷ es) fs previous old before P t = (t.0, t.1, t.2, t.3, t.4, t.5, t.6, read_on es fs (Some e) t.1 t.2 P t.7)

-- a list with no read
pub unread : (es : List Event) (previous : Option Event) (old : MirrorView) (before : Requests) (P : MirrorView → Requests → Type 0)
    → InTurn previous old before es P → ReadInTurn previous old before es P
unread [] previous old before P t = (old, rests_same old, t)
unread (e ∷ es) previous old before P t = (old, t.0, t.1, rests_same old, t.2, t.3, t.4, unread es (Some e) t.0 t.1 P t.5)

-- nothing is asked of the device
pub left_whole : (e : Event) (old new : MirrorView) → IsNoFailedRecord e → LeftWhole old e new
left_whole (Event.WriteFails k MemberPart.Superblock) old new is = absurd is
left_whole (Event.RecordTargetFails k) old new is = absurd is
left_whole (Event.Enrol k role listed) old new is = absurd is
left_whole (Event.Checkpoint k sure listed) old new is = absurd is
left_whole e old new is = tt

-- a call's events go on with a mirror's run
pub read_run : (es : List Event) (previous : Option Event) (h : Moment) (Then : MirrorView → Requests → Type 0) → ReadInTurn previous h.mirror h.requests es Then
    → AllOf IsNoFailedRecord es → AreHonest h.mirror.disks → (last : Moment) × MirrorRun h es last × Then last.mirror last.requests
read_run [] previous h Then t all honest = (record h { mirror = t.0 }, record { rests = t.1; is = refl }, t.2)
read_run (e ∷ es) previous h Then t all honest =
    let does = t.6 (same_honest h.mirror.disks t.0.disks t.3.disks.same honest) (left_whole e t.0 t.1 all.0) in
    let rest = read_run es (Some e) (then_as h e t.1 t.2) Then t.7 all.1 does.honest in
    (rest.0, (t.1, t.2, record { mid = t.0; rests = t.3; does = does }, rest.1), rest.2)

pub reading_call_is_run : ReadingCallsAreRuns
reading_call_is_run es previous t new after leads all honest = read_run es previous t (λ m r. (m ≡ new) × (r ≡ after)) leads all honest
