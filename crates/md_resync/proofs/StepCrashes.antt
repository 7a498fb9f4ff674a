-- A crash within a whole resync is a crash of a run.
use Rattle.std.proofs.Common.{◌≡◌, ◌∙◌, inl, inr, ℕ, zero, suc, ◌+◌, ◌/◌, List, [], ◌∷◌, ◌++◌, length, Option, Some, None, refl, sym, ap, subst}
use Rattle.md_model.specs.Events.{Event, MemberPart}
use Rattle.md_state.specs.Steps.CopyData.{copies_of}
use Rattle.md_state.specs.View.{Disk, MirrorView}
use Rattle.md_array.specs.InTurn.{AllLeftWhole, AllOf, InTurn, LeftWhole, Requests}
use Rattle.md_array.proofs.StepLemmas.Turns.{all_on}
use Rattle.md_laws.specs.Left.{contents_of}
use Rattle.md_laws.specs.Runs.{HasRested, MirrorRun, Moment, then_as}
use Rattle.md_laws.specs.CallCrashes.{IsLeftWhole}
use Rattle.md_laws.specs.CopyCrashes.{copies_at}
use Rattle.md_laws.proofs.Runs.CallRuns.{call_is_run}
use Rattle.md_laws.proofs.Runs.MirrorRuns.{rests_run}
use Rattle.md_laws.proofs.Runs.Moments.{IsSoundAt, life_keeps, run_keeps, run_then, sound_when_opened}
use Rattle.md_laws.proofs.Runs.Rests.{at_rest}
use Rattle.md_laws.proofs.Crashes.CallCrashes.{WritesWhole, within_event}
use Rattle.md_laws.proofs.Crashes.CopyCrashes.{crashes_at_copies}
use Rattle.md_resync.specs.Steps.{IsNoCopy, MirrorStep, StepsInTurn, copies_in, events_of_steps}
use Rattle.md_resync.specs.StepCrashes.{IsResyncing, IsCrashOfRun, CrashesAreOfRuns, CrashesInSteps}

-- ---- nothing is asked of such events
no_data : (e : Event) (requests : Requests) → IsResyncing e → WritesWhole e requests
no_data (Event.WriteMember n k) requests of = absurd of
no_data (Event.WriteFails k (MemberPart.RequestData n)) requests of = absurd of
no_data e requests of = tt

whole_event : (e : Event) (old new : MirrorView) → IsResyncing e → LeftWhole old e new
whole_event (Event.StoreMarks k b) old new of = tt
whole_event (Event.WriteFails k (MemberPart.BitmapSector b)) old new of = tt
whole_event (Event.Copy from k s) old new of = tt
whole_event (Event.WriteFails k (MemberPart.CopiedSectors s n)) old new of = tt
whole_event Event.Resynced old new of = tt
whole_event Event.Unresynced old new of = tt
whole_event (Event.ClearIdle c) old new of = tt
whole_event e old new of = absurd of

left_any : (e : Event) (old new : MirrorView) (left : List Disk) → IsResyncing e → IsNoCopy e → IsLeftWhole e old new left
left_any (Event.StoreMarks k b) old new left of single = tt
left_any (Event.WriteFails k (MemberPart.BitmapSector b)) old new left of single = tt
left_any (Event.Copy from k s) old new left of single = absurd single
left_any (Event.WriteFails k (MemberPart.CopiedSectors s n)) old new left of single = tt
left_any Event.Resynced old new left of single = tt
left_any Event.Unresynced old new left of single = tt
left_any (Event.ClearIdle c) old new left of single = tt
left_any e old new left of single = absurd of

-- ---- copies
some_whole : (from k : ℕ) (ss : List ℕ) (previous : Option Event) (old : MirrorView) (before : Requests) (Then : MirrorView → Requests → Type 0)
    (t : InTurn previous old before (copies_at from k ss) Then) → AllLeftWhole (copies_at from k ss) previous old before Then t
some_whole from k [] previous old before Then t = tt
some_whole from k (s ∷ ss) previous old before Then t = (tt, some_whole from k ss (Some (Event.Copy from k s)) t.0 t.1 Then t.5)

some_are : (from k : ℕ) (ss : List ℕ) → AllOf IsResyncing (copies_at from k ss)
some_are from k [] = tt
some_are from k (s ∷ ss) = (tt, some_are from k ss)

all_whole : (from k s n : ℕ) (previous : Option Event) (old : MirrorView) (before : Requests) (Then : MirrorView → Requests → Type 0)
    (t : InTurn previous old before (copies_of from k s n) Then) → AllLeftWhole (copies_of from k s n) previous old before Then t
all_whole from k s zero previous old before Then t = tt
all_whole from k s (suc n) previous old before Then t = (tt, all_whole from k (s + 1) n (Some (Event.Copy from k s)) t.0 t.1 Then t.5)

all_are : (from k s n : ℕ) → AllOf IsResyncing (copies_of from k s n)
all_are from k s zero = tt
all_are from k s (suc n) = (tt, all_are from k (s + 1) n)

all_behind : (es fs : List Event) → AllOf IsResyncing (es ++ fs) → AllOf IsResyncing fs
all_behind [] fs all = all
all_behind (e ∷ es) fs all = all_behind es fs all.1

-- ---- along the steps
crashes_in_steps : (steps : List MirrorStep) (h : Moment) → IsSoundAt h → (Then : MirrorView → Requests → Type 0) (t : StepsInTurn h.mirror h.requests steps Then) → AllOf IsResyncing (events_of_steps steps)
    → (left : List Disk) → CrashesInSteps steps h.mirror h.requests Then t left → IsCrashOfRun h left
crashes_in_steps [] h at Then t of left stop = absurd stop
crashes_in_steps (MirrorStep.Single e ∷ steps) h at Then t of left (inl here) =
    let rested : Moment = record h { mirror = t.0 } in
    let read : HasRested h rested = record { rests = t.3; is = refl } in
    let sound = run_keeps [] h rested read at in
    elim (within_event t.7.0 rested sound t.1 t.2 left here e t.7.1 t.5 t.6 (no_data e h.requests of.0) (left_any e t.0 t.1 left of.0 t.4)) [
      | inl is_left ↦ record { events = []; steps = tt; at = rested; run = read; is_left = is_left }
      | inr so ↦ record {
        events = e ∷ [];
        steps = (of.0, tt);
        at = then_as h e so.mid so.between;
        run = (so.mid, so.between, record { mid = t.0; rests = t.3; does = so.does }, at_rest (then_as h e so.mid so.between));
        is_left = inl so.contents;
      }
    ]
crashes_in_steps (MirrorStep.Single e ∷ steps) h at Then t of left (inr later) =
    let rested : Moment = record h { mirror = t.0 } in
    let sound = run_keeps [] h rested (record { rests = t.3; is = refl }) at in
    let does = t.6 sound.honest (whole_event e t.0 t.1 of.0) in
    let next = then_as h e t.1 t.2 in
    let sound_next = run_keeps (e ∷ []) h next (t.1, t.2, record { mid = t.0; rests = t.3; does = does }, at_rest next) at in
    let rest = crashes_in_steps steps next sound_next Then t.8 of.1 left later in
    record {
      events = e ∷ rest.events;
      steps = (of.0, rest.steps);
      at = rest.at;
      run = (t.1, t.2, record { mid = t.0; rests = t.3; does = does }, rest.run);
      is_left = rest.is_left;
    }
crashes_in_steps (MirrorStep.CopyRun r ∷ steps) h at Then t of left (inl here) =
    let rested : Moment = record h { mirror = t.0 } in
    let read : HasRested h rested = record { rests = t.2; is = refl } in
    let sound = run_keeps [] h rested read at in
    let part = crashes_at_copies r.to r.sector r.bytes t.0 t.1 (contents_of left) sound.sound sound.honest t.3 here in
    let es = copies_at part.from r.to part.sectors in
    let leads = part.leads None h.requests sound.in_flight in
    let run = call_is_run es None rested part.mid h.requests leads sound.honest (some_whole part.from r.to part.sectors None t.0 h.requests (λ m q. (m ≡ part.mid) × (q ≡ h.requests)) leads) in
    record {
      events = es;
      steps = some_are part.from r.to part.sectors;
      at = run.0;
      run = rests_run es h rested run.0 read run.1;
      is_left = inl (sym part.contents ∙ ap (λ (v : MirrorView). contents_of v.disks) (sym run.2.0));
    }
crashes_in_steps (MirrorStep.CopyRun r ∷ steps) h at Then t of left (inr later) =
    let rested : Moment = record h { mirror = t.0 } in
    let read : HasRested h rested = record { rests = t.2; is = refl } in
    let sound = run_keeps [] h rested read at in
    let es = copies_in r in
    let n = length r.bytes / 512 in
    let whole = all_whole r.from r.to r.sector n None t.0 h.requests (λ m q. (m ≡ t.1) × (q ≡ h.requests)) (t.4 None) in
    let run = call_is_run es None rested t.1 h.requests (t.4 None) sound.honest whole in
    let last : Moment = record run.0 { mirror = t.1; requests = h.requests } in
    let there : MirrorRun rested es last = subst (MirrorRun rested es) (λ i. record run.0 { mirror = run.2.0 i; requests = run.2.1 i }) run.1 in
    let rest = crashes_in_steps steps last (run_keeps es rested last there sound) Then t.5 (all_behind es (events_of_steps steps) of) left later in
    record {
      events = es ++ rest.events;
      steps = all_on IsResyncing es rest.events (all_are r.from r.to r.sector n) rest.steps;
      at = rest.at;
      run = run_then es rest.events h last rest.at (rests_run es h rested last read there) rest.run;
      is_left = rest.is_left;
    }

pub crashes_are_of_runs : CrashesAreOfRuns
crashes_are_of_runs before m start events rest final t life steps new after leads of left stop =
    let at = life_keeps m events rest final t (sound_when_opened before m start.honest start.opened) life in
    crashes_in_steps steps t at (λ m r. (m ≡ new) × (r ≡ after)) leads of left stop
