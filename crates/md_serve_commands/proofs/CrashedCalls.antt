-- A crash within the calls of a session is one in the life of the mirror, and leaves the content in each sector that no write touches.
use Rattle.std.proofs.Common.{◌≡◌, ◌≢◌, ◌∙◌, inl, inr, ℕ, zero, suc, ◌%◌, Bool, true, false, cond, List, [], ◌∷◌, ◌++◌, length, take, Some, None, refl, sym, ap, subst}
use Rattle.std.proofs.lemmas.List.{append-nil, take_at}
use Rattle.std.proofs.lemmas.Option.{none-some}
use Rattle.md_bitmap.specs.declared.chunks.Chunks.{Chunks}
use Rattle.md_inflight.specs.Requests.Pending.{PendingView}
use Rattle.md_model.specs.Content.{Content, Holds, with_request}
use Rattle.md_model.specs.Events.{Event, MemberPart, Step}
use Rattle.md_model.specs.Sectors.{Geometry, put}
use Rattle.md_model.specs.Steps.{begun}
use Rattle.md_model.specs.Worlds.{IsInFlight, IsQuiet, Request, World, touches}
use Rattle.md_model.proofs.Puts.{by_same, put-hit, put-miss}
use Rattle.md_state.specs.Requests.{AreInFlight, request_of}
use Rattle.md_state.specs.Steps.Begin.{Begins}
use Rattle.md_state.specs.View.{ArrayView, Disk, MirrorView, geometry_of}
use Rattle.md_array.specs.InTurn.{AllOf, Requests}
use Rattle.md_array.specs.Worlds.{none_in_flight, world_of}
use Rattle.md_array.proofs.StepLemmas.Turns.{all_on, all_such}
use Rattle.md_laws.specs.CallCrashes.{IsCrashOf}
use Rattle.md_laws.specs.Left.{IsLeftByCrash}
use Rattle.md_laws.specs.Lives.{MirrorLife, MirrorLifeWith}
use Rattle.md_laws.specs.Runs.{IsStart, MirrorRun, MirrorRunWith, Moment, RestsThenDoes, opened_as, then_as}
use Rattle.md_laws.proofs.Runs.CallRuns.{call_is_run}
use Rattle.md_laws.proofs.Runs.ContentRuns.{without_content}
use Rattle.md_laws.proofs.Runs.MirrorContents.{life_held_at}
use Rattle.md_laws.proofs.Runs.Moments.{IsSoundAt}
use Rattle.md_laws.proofs.Runs.Rests.{at_rest, rests_does}
use Rattle.md_metadata.specs.Storing.{IsRecording, IsStoring}
use Rattle.md_metadata.specs.Stopping.{HaltsStop, IsStopping, IsStoringIf, clears_marks}
use Rattle.md_write.specs.Progress.{IsEventOf, IsOfRequest, end_chunk, first_chunk}
use Rattle.md_write.specs.WriteCrashes.{begun_events}
use Rattle.md_write.specs.Writing.{HaltsWrite, events_of_write}
use Rattle.md_write.proofs.Received.{IsReceiving, receives_begin}
use Rattle.md_write.proofs.WriteCrashes.{crashes_in_halted_write, crashes_in_stop, crashes_in_write}
use Rattle.md_call_laws.specs.Crashes.HaltedCalls.{IsCrashAtHalt, IsInstead}
use Rattle.md_call_laws.proofs.CrashLemmas.HaltedCalls.{crashes_at_halted_stop, crashes_at_halted_write}
use Rattle.md_call_laws.proofs.RebuildLemmas.RebuildRun.{life_on, run_with_then}
use Rattle.md_serve_commands.specs.Told.{ArrayWrite}
use Rattle.md_serve_commands.specs.Calls.{AreFirstOf, AreFirstOrInstead, AreNone, CallLeftWhole, CallsLeftWhole, CrashesAlong, CrashesAtHalt, CrashesInCall, CrashesInCalls, DoesCall, DoesCalls, GoesAlong, HaltsInCall, IsClearOf, IsClearOfHalt, SessionCall, WentAtHalt, WentBehind, WentInCalls, call_events, content_after, contents_after, none_there, request_with}
use Rattle.md_serve_commands.proofs.CallContents.{becomes_same, call_along, comes_there, distinct, finish_becomes, receives_next, sound_along, stop_becomes}
use Rattle.md_serve_commands.proofs.JoinedWrites.{write_off}
use Rattle.md_serve_commands.proofs.Settling.{IsSettling, resynced_along, settles}

-- a run that a crash cut: what stays of the content, and what is in flight
record IsCut (IsAside : ℕ → Type 0) (t : Moment) (a : Content) (es : List Event) (u : Moment) : Type 0 where
  content : Content
  run : MirrorRunWith t a es u content
  same : (s : ℕ) → IsAside s → content s ≡ a s
  quiet : (s : ℕ) → IsAside s → IsQuiet (world_of u.mirror u.requests) s
  resynced : t.mirror.array.resynced ≡ true → u.mirror.array.resynced ≡ true

step_of : (t : Moment) (e : Event) (m : MirrorView) (r : Requests) → RestsThenDoes t.mirror t.requests e m r → Step (geometry_of t.mirror.array) (world_of t.mirror t.requests) e (world_of m r)
step_of t e m r does = (rests_does t.mirror m t.requests r e does).step

-- ---- the events of a request
abbrev tail_of : Bool → ℕ → List Event
tail_of true n = Event.Finish n ∷ []
tail_of false n = []

module _ (n low high : ℕ) (p : Request) (first : World) where
  -- no other request is in flight
  abbrev IsAlone : World → Type 0
  IsAlone w = (m : ℕ) (q : Request) → IsInFlight w m q → m ≡ n

  same_alone : (w u : World) → ((m : ℕ) → u.request m ≡ w.request m) → IsAlone w → IsAlone u
  same_alone w u same alone m q at = alone m q (sym (same m) ∙ at)

  alone_step : (g : Geometry) (w : World) (e : Event) (u : World) → IsEventOf n low high e → Step g w e u → IsAlone w → IsAlone u
  alone_step g w (Event.Record k) u of step = same_alone w u (λ m. ap (λ (x : World). x.request m) step.1.3)
  alone_step g w (Event.LowerOffset k s) u of step = same_alone w u (λ m. ap (λ (x : World). x.request m) step.1.1)
  alone_step g w (Event.StoreMarks k b) u of step = same_alone w u (λ m. ap (λ (x : World). x.request m) step.1.1)
  alone_step g w (Event.WriteFails k part) u of step = same_alone w u (λ m. ap (λ (x : World). x.request m) step.1.2.3)
  alone_step g w (Event.WriteMember j k) u of step = λ alone m q at. by_same m j
      (λ here. here ∙ of)
      (λ apart. alone m q (sym (ap (λ (x : World). x.request m) step.1.2 ∙ put-miss j _ w.request m apart) ∙ at))
  alone_step g w e u of step = absurd of

  settling : (e : Event) → IsEventOf n low high e → IsSettling e
  settling Event.Unresynced of = of
  settling e of = tt

  abbrev IsApart : ℕ → Type 0
  IsApart s = touches p s ≡ false

  -- the request alone is in flight, or none
  quiet_beside : (w : World) → IsReceiving n p first w → IsAlone w → (s : ℕ) → IsApart s → IsQuiet w s
  quiet_beside w is alone s off m q at =
      let here : w.request n ≡ Some q = sym (ap w.request (alone m q at)) ∙ at in
      ap (λ (x : Request). touches x s) (is.request q here) ∙ off

  rested_cut : (t u : Moment) (a : Content) → IsReceiving n p first (world_of t.mirror t.requests) → IsAlone (world_of t.mirror t.requests) → MirrorRun t [] u → IsCut IsApart t a [] u
  rested_cut t u a is alone r = record {
    content = a;
    run = (r, refl);
    same = λ s off. refl;
    quiet = λ s off m q at.
        quiet_beside (world_of t.mirror t.requests) is alone s off m q (sym (ap (λ (x : Moment). x.requests m) r.is) ∙ at);
    resynced = λ before. ap (λ (x : ArrayView). x.resynced) r.rests.array ∙ before;
  }

  finished_cut : (t u : Moment) (a : Content) → IsReceiving n p first (world_of t.mirror t.requests) → IsAlone (world_of t.mirror t.requests) → MirrorRun t (Event.Finish n ∷ []) u
      → IsCut IsApart t a (Event.Finish n ∷ []) u
  finished_cut t u a is alone r =
      let step = step_of t (Event.Finish n) r.0 r.1 r.2 in
      record {
        content = with_request (Some p) a;
        run = (r.0, r.1, with_request (Some p) a, r.2, finish_becomes n low high p first t r.0 r.1 a r.2 is, (r.3, refl));
        same = λ s off. ap (λ (b : Bool). cond b (p.bytes s) (a s)) off;
        quiet = λ s off m q at.
            let here : r.1 m ≡ Some q = sym (ap (λ (x : Moment). x.requests m) r.3.is) ∙ at in
            let after : r.1 m ≡ put n None t.requests m = ap (λ (x : World). x.request m) step.1.2 in
            by_same m n
            (λ same. absurd (none-some q (sym (put-hit n None t.requests) ∙ sym (ap (put n None t.requests) same) ∙ sym after ∙ here)))
            (λ apart. absurd (apart (alone m q (sym (put-miss n None t.requests m apart) ∙ sym after ∙ here))));
        resynced = λ before.
            ap (λ (x : ArrayView). x.resynced) r.3.rests.array
            ∙ settles (geometry_of t.mirror.array) (world_of t.mirror t.requests) (Event.Finish n) (world_of r.0 r.1) tt step before;
      }

  cut_then : (e : Event) (es : List Event) → IsEventOf n low high e → (t u : Moment) (a : Content) (r : MirrorRun t (e ∷ es) u)
      → IsCut IsApart (then_as t e r.0 r.1) a es u → IsCut IsApart t a (e ∷ es) u
  cut_then e es of t u a r c = record {
    content = c.content;
    run = (r.0, r.1, a, r.2, becomes_same n low high p first e of (geometry_of t.mirror.array) (world_of t.mirror t.requests) a, c.run);
    same = c.same;
    quiet = c.quiet;
    resynced = λ before.
        c.resynced (settles (geometry_of t.mirror.array) (world_of t.mirror t.requests) e (world_of r.0 r.1) (settling e of) (step_of t e r.0 r.1 r.2) before);
  }

  cut_on : (ends : Bool) (k : ℕ) (es : List Event) → AllOf (IsEventOf n low high) es → (t u : Moment) (a : Content) → IsReceiving n p first (world_of t.mirror t.requests)
      → IsAlone (world_of t.mirror t.requests) → MirrorRun t (take k (es ++ tail_of ends n)) u → IsCut IsApart t a (take k (es ++ tail_of ends n)) u
  cut_on ends zero es of t u a is alone r = rested_cut t u a is alone r
  cut_on true (suc zero) [] of t u a is alone r = finished_cut t u a is alone r
  cut_on true (suc (suc k)) [] of t u a is alone r = finished_cut t u a is alone r
  cut_on false (suc k) [] of t u a is alone r = rested_cut t u a is alone r
  cut_on ends (suc k) (e ∷ es) of t u a is alone r =
      cut_then e (take k (es ++ tail_of ends n)) of.0 t u a r
      (cut_on ends k es of.1 (then_as t e r.0 r.1) u a (receives_next n low high p first t e r.0 r.1 of.0 r.2 is)
      (alone_step (geometry_of t.mirror.array) (world_of t.mirror t.requests) e (world_of r.0 r.1) of.0 (step_of t e r.0 r.1 r.2) alone) r.3)

-- ---- a request from its begin on
begun_others : (g : Geometry) (w : World) (n : ℕ) (p : Request) (rises full : Bool) (m : ℕ) → m ≢ n → (begun g w n p rises full).request m ≡ w.request m
begun_others g w n p true full m apart = put-miss n (Some p) w.request m apart
begun_others g w n p false full m apart = put-miss n (Some p) w.request m apart

-- nothing in flight leaves all sectors quiet
pub none_quiet : (v : MirrorView) (requests : Requests) → AreNone requests → (s : ℕ) → IsQuiet (world_of v requests) s
none_quiet v requests none s n p at = absurd (none-some p (sym (none n) ∙ at))

-- a run without an event
at_once : (IsAside : ℕ → Type 0) (t u : Moment) (a : Content) → AreNone t.requests → MirrorRun t [] u → IsCut IsAside t a [] u
at_once IsAside t u a none r = record {
  content = a;
  run = (r, refl);
  same = λ s off. refl;
  quiet = λ s off m q at. absurd (none-some q (sym (none m) ∙ sym (ap (λ (x : Moment). x.requests m) r.is) ∙ at));
  resynced = λ before. ap (λ (x : ArrayView). x.resynced) r.rests.array ∙ before;
}

abbrev WriteIsAside : ArrayWrite → ℕ → Type 0
WriteIsAside w s = touches (request_with w) s ≡ false

module _ (t : Moment) (none : AreNone t.requests) (w : ArrayWrite) (after : MirrorView) (p : PendingView) (begins : Begins w.0 w.1 t.mirror after p) (es : List Event)
    (steps : AllOf (IsOfRequest t.mirror.array.chunks p) es) (ends : Bool) where
  abbrev n : ℕ
  n = p.ticket.number

  abbrev first : Event
  first = Event.Begin n (request_of p)

  abbrev all : List Event
  all = first ∷ (es ++ tail_of ends n)

  aside : (s : ℕ) → WriteIsAside w s → touches (request_of p) s ≡ false
  aside s off = ap (λ (x : PendingView). touches (request_of x) s) begins.pending ∙ off

  begun_cut : (k : ℕ) (u : Moment) (a : Content) → MirrorRun t (take (suc k) all) u → IsCut (WriteIsAside w) t a (take (suc k) all) u
  begun_cut k u a r =
      let g : Geometry = geometry_of t.mirror.array in
      let old : World = world_of t.mirror t.requests in
      let new : World = world_of r.0 r.1 in
      let leads = rests_does t.mirror r.0 t.requests r.1 first r.2 in
      let step : Step g old first new = leads.step in
      let receiving : IsReceiving n (request_of p) old new = receives_begin g n (request_of p) old new step (distinct r.0 leads.sound r.1) in
      let alone : (m : ℕ) (q : Request) → IsInFlight new m q → m ≡ n =
      λ m q at. by_same m n (λ same. same)
      (λ apart. absurd (none-some q (sym (none m) ∙ sym (begun_others g old n (request_of p) step.1.0 step.1.1 m apart) ∙ sym (ap (λ (x : World). x.request m) step.1.5) ∙ at))) in
      let c = cut_on n (first_chunk t.mirror.array.chunks p) (end_chunk t.mirror.array.chunks p) (request_of p) old ends k es steps (then_as t first r.0 r.1) u a receiving alone r.3 in
      record {
        content = c.content;
        run = (r.0, r.1, a, r.2, refl, c.run);
        same = λ s off. c.same s (aside s off);
        quiet = λ s off. c.quiet s (aside s off);
        resynced = λ before. c.resynced (settles g old first new tt step before);
      }

  request_cut : (k : ℕ) (u : Moment) (a : Content) → MirrorRun t (take k all) u → IsCut (WriteIsAside w) t a (take k all) u
  request_cut zero u a r = at_once (WriteIsAside w) t u a none r
  request_cut (suc k) u a r = begun_cut k u a r

-- ---- the events of a `stop`
stop_settling : (e : Event) → IsStopping e → IsSettling e
stop_settling Event.Unresynced of = of
stop_settling e of = tt

stop_requests : (g : Geometry) (w : World) (e : Event) (u : World) → IsStopping e → Step g w e u → (m : ℕ) → u.request m ≡ w.request m
stop_requests g w (Event.ClearIdle c) u of step m = ap (λ (x : World). x.request m) step.1.1
stop_requests g w Event.MakeClean u of step m = ap (λ (x : World). x.request m) step.1.3
stop_requests g w (Event.Record k) u of step m = ap (λ (x : World). x.request m) step.1.3
stop_requests g w (Event.StoreMarks k b) u of step m = ap (λ (x : World). x.request m) step.1.1
stop_requests g w (Event.WriteFails k part) u of step m = ap (λ (x : World). x.request m) step.1.2.3
stop_requests g w e u of step m = absurd of

abbrev pub AllAside : ℕ → Type 0
AllAside s = Unit {0}

stop_cut : (k : ℕ) (es : List Event) → AllOf IsStopping es → (t u : Moment) (a : Content) → AreNone t.requests → MirrorRun t (take k es) u → IsCut AllAside t a (take k es) u
stop_cut zero es of t u a none r = at_once AllAside t u a none r
stop_cut (suc k) [] of t u a none r = at_once AllAside t u a none r
stop_cut (suc k) (e ∷ es) of t u a none r =
    let g : Geometry = geometry_of t.mirror.array in
    let step = step_of t e r.0 r.1 r.2 in
    let none_then : AreNone r.1 = λ m. stop_requests g (world_of t.mirror t.requests) e (world_of r.0 r.1) of.0 step m ∙ none m in
    let c = stop_cut k es of.1 (then_as t e r.0 r.1) u a none_then r.3 in
    record {
      content = c.content;
      run = (r.0, r.1, a, r.2, stop_becomes e of.0 g (world_of t.mirror t.requests) a, c.run);
      same = c.same;
      quiet = c.quiet;
      resynced = λ before. c.resynced (settles g (world_of t.mirror t.requests) e (world_of r.0 r.1) (stop_settling e of.0) step before);
    }

-- ---- a crash of a run
crash_along : (WentSo : List Event → Type 0) (IsAside : ℕ → Type 0) (t : Moment) (a : Content) (left : List Disk) (es : List Event) (x : IsCrashOf es t left)
    → ((k : ℕ) (u : Moment) → MirrorRun t (take k es) u → IsCut IsAside t a (take k es) u) → WentSo x.done → CrashesAlong WentSo t a left IsAside
crash_along WentSo IsAside t a left es x cut went =
    let k : ℕ = length x.done in
    let done : x.done ≡ take k es = sym (take_at x.done x.rest k refl) ∙ ap (λ (l : List Event). take k l) (sym x.order) in
    let c = subst (λ (l : List Event). IsCut IsAside t a l x.at) (sym done) (cut k x.at (subst (λ (l : List Event). MirrorRun t l x.at) done x.run)) in
    record { events = x.done; went = went; at = x.at; content = c.content; run = c.run; is_left = x.is_left; resynced = c.resynced; same = c.same; quiet = c.quiet }

first_of : (es : List Event) (t : Moment) (left : List Disk) (x : IsCrashOf es t left) → AreFirstOf es x.done
first_of es t left x = record { rest = x.rest; order = x.order }

-- and where other events stand in place of a write that failed
abbrev all_of : (es instead : List Event) (t : Moment) (left : List Disk) (at : Moment) → MirrorRun t (es ++ instead) at → IsLeftByCrash at left → IsCrashOf (es ++ instead) t left
all_of es instead t left at run is_left = record { done = es ++ instead; rest = []; order = sym (append-nil (es ++ instead)); at = at; run = run; is_left = is_left }

pub fewer_aside : (WentSo : List Event → Type 0) (IsAside IsToo : ℕ → Type 0) (t : Moment) (a : Content) (left : List Disk) → ((s : ℕ) → IsToo s → IsAside s)
    → CrashesAlong WentSo t a left IsAside → CrashesAlong WentSo t a left IsToo
fewer_aside WentSo IsAside IsToo t a left f c = record {
  events = c.events;
  went = c.went;
  at = c.at;
  content = c.content;
  run = c.run;
  is_left = c.is_left;
  resynced = c.resynced;
  same = λ s off. c.same s (f s off);
  quiet = λ s off. c.quiet s (f s off);
}

pub went_too : (WentSo WentToo : List Event → Type 0) (IsAside : ℕ → Type 0) (t : Moment) (a : Content) (left : List Disk) → ((es : List Event) → WentSo es → WentToo es)
    → CrashesAlong WentSo t a left IsAside → CrashesAlong WentToo t a left IsAside
went_too WentSo WentToo IsAside t a left f c = record {
  events = c.events;
  went = f c.events c.went;
  at = c.at;
  content = c.content;
  run = c.run;
  is_left = c.is_left;
  resynced = c.resynced;
  same = c.same;
  quiet = c.quiet;
}

-- a crash behind what went before
pub crash_later : (es : List Event) (WentSo : List Event → Type 0) (IsAside : ℕ → Type 0) (t : Moment) (a b : Content) (mid : MirrorView) (left : List Disk) (x : GoesAlong es t a mid b)
    → (t.mirror.array.resynced ≡ true → mid.array.resynced ≡ true) → ((s : ℕ) → IsAside s → b s ≡ a s)
    → CrashesAlong WentSo (record x.past { mirror = mid; requests = t.requests }) b left IsAside → CrashesAlong (WentBehind es WentSo) t a left IsAside
crash_later es WentSo IsAside t a b mid left x settled same c = record {
  events = es ++ c.events;
  went = record { later = c.events; order = refl; went = c.went };
  at = c.at;
  content = c.content;
  run = run_with_then es c.events t (record x.past { mirror = mid; requests = t.requests }) c.at a b c.content x.run c.run;
  is_left = c.is_left;
  resynced = λ before. c.resynced (settled before);
  same = λ s off. c.same s off ∙ same s off;
  quiet = c.quiet;
}

-- ---- what calls leave
pub call_same : (c : SessionCall) (cs : List SessionCall) (a : Content) (s : ℕ) → IsClearOf (c ∷ cs) s → content_after c a s ≡ a s
call_same SessionCall.Reading cs a s off = refl
call_same (SessionCall.Writing w) cs a s off = write_off w.0 w.1 a s off.0
call_same SessionCall.Clearing cs a s off = refl

clear_later : (c : SessionCall) (cs : List SessionCall) (s : ℕ) → IsClearOf (c ∷ cs) s → IsClearOf cs s
clear_later SessionCall.Reading cs s off = off
clear_later (SessionCall.Writing w) cs s off = off.1
clear_later SessionCall.Clearing cs s off = off

pub calls_same : (cs : List SessionCall) (a : Content) (s : ℕ) → IsClearOf cs s → contents_after cs a s ≡ a s
calls_same [] a s off = refl
calls_same (c ∷ cs) a s off = calls_same cs (content_after c a) s (clear_later c cs s off) ∙ call_same c cs a s off

pub call_settles : (c : SessionCall) (t : Moment) → IsSoundAt t → (none : AreNone t.requests) (new : MirrorView) (d : DoesCall c t.mirror new) → CallLeftWhole t.requests none c t.mirror new d
    → t.mirror.array.resynced ≡ true → new.array.resynced ≡ true
call_settles SessionCall.Reading t at none new d whole before = ap (λ (a : ArrayView). a.resynced) d.array ∙ before
call_settles (SessionCall.Writing w) t at none new d whole before = d.resynced ∙ before
call_settles SessionCall.Clearing t at none new d whole before =
    let leads = d.leads None t.requests (none_there t.requests none t.mirror.array) in
    let r = call_is_run d.events None t new t.requests leads at.honest whole in
    resynced_along d.events (all_such IsStopping IsSettling stop_settling d.events d.steps) t (record r.0 { mirror = new; requests = t.requests }) (comes_there t d.events new r) before

pub calls_settle : (cs : List SessionCall) (t : Moment) → IsSoundAt t → (none : AreNone t.requests) (new : MirrorView) (d : DoesCalls t.mirror cs new) → CallsLeftWhole t.requests none cs t.mirror new d
    → (a : Content) → t.mirror.array.resynced ≡ true → new.array.resynced ≡ true
calls_settle [] t at none new d whole a was = ap (λ (v : MirrorView). v.array.resynced) d ∙ was
calls_settle (c ∷ cs) t at none new d whole a was =
    let x = call_along c t at none d.0 d.1 whole.0 a in
    calls_settle cs (record x.past { mirror = d.0; requests = t.requests }) (sound_along (call_events c t.mirror d.0 d.1) t a _ d.0 x at) none new d.2 whole.1 a (call_settles c t at none d.0 d.1 whole.0 was)

-- what these calls write is whole sectors
abbrev pub AreWhole : List SessionCall → Type 0
AreWhole [] = Unit {0}
AreWhole (SessionCall.Reading ∷ cs) = AreWhole cs
AreWhole (SessionCall.Writing w ∷ cs) = (length w.1 % 512 ≡ 0) × AreWhole cs
AreWhole (SessionCall.Clearing ∷ cs) = AreWhole cs

abbrev pub IsWholeHalt : (old new : MirrorView) → HaltsInCall old new → Type 0
IsWholeHalt old new (inl h) = length h.0.1 % 512 ≡ 0
IsWholeHalt old new (inr h) = Unit {0}

whole_later : (c : SessionCall) (cs : List SessionCall) → AreWhole (c ∷ cs) → AreWhole cs
whole_later SessionCall.Reading cs whole = whole
whole_later (SessionCall.Writing w) cs whole = whole.1
whole_later SessionCall.Clearing cs whole = whole

whole_first : (c : SessionCall) (cs : List SessionCall) → AreWhole (c ∷ cs) → AreWhole (c ∷ [])
whole_first SessionCall.Reading cs whole = tt
whole_first (SessionCall.Writing w) cs whole = (whole.0, tt)
whole_first SessionCall.Clearing cs whole = tt

-- ---- in the life of a mirror
pub plain_life : (m : MirrorView) (a : Content) (es : List Event) (rest : List (List Event)) (final : MirrorView) (last : Moment) (b : Content) → MirrorLifeWith m a es rest final last b
    → MirrorLife m es rest final last
plain_life m a es [] final last b life = (life.0, without_content es (opened_as m) a last b life.1)
plain_life m a es (more ∷ rest) final last b life =
    (life.0, life.1, without_content es (opened_as m) a life.0 life.2 life.4, life.5, plain_life life.1 life.3 more rest final last b life.7)

-- ---- what stands in place of a write that failed
instead_of_request : (chunks : Chunks) (p : PendingView) (failing : Event) (instead : List Event) → IsOfRequest chunks p failing → IsInstead failing instead → AllOf (IsOfRequest chunks p) instead
instead_of_request chunks p (Event.WriteFails k (MemberPart.BitmapSector b)) instead of is = subst (AllOf (IsOfRequest chunks p)) (sym is) (of, tt)
instead_of_request chunks p (Event.WriteFails k MemberPart.Log) instead of is = absurd of
instead_of_request chunks p (Event.WriteFails k (MemberPart.CopiedSectors s n)) instead of is = absurd of
instead_of_request chunks p e instead of is = absurd is

instead_of_storing : (failing : Event) (instead : List Event) → IsStoring failing → IsInstead failing instead → AllOf IsStopping instead
instead_of_storing (Event.WriteFails k (MemberPart.BitmapSector b)) instead of is = subst (AllOf IsStopping) (sym is) (tt, tt)
instead_of_storing (Event.WriteFails k MemberPart.Log) instead of is = absurd of
instead_of_storing (Event.WriteFails k (MemberPart.CopiedSectors s n)) instead of is = absurd of
instead_of_storing e instead of is = absurd is

instead_of_recording : (failing : Event) (instead : List Event) → IsRecording failing → IsInstead failing instead → AllOf IsStopping instead
instead_of_recording (Event.WriteFails k (MemberPart.BitmapSector b)) instead of is = subst (AllOf IsStopping) (sym is) (tt, tt)
instead_of_recording (Event.WriteFails k MemberPart.Log) instead of is = absurd of
instead_of_recording (Event.WriteFails k (MemberPart.CopiedSectors s n)) instead of is = absurd of
instead_of_recording e instead of is = absurd is

instead_of_stop : (clears : Bool) (failing : Event) (instead : List Event) → IsStoringIf clears failing → IsInstead failing instead → AllOf IsStopping instead
instead_of_stop true failing instead of is = instead_of_storing failing instead of is
instead_of_stop false failing instead of is = instead_of_recording failing instead of is

module _ (before : List Disk) (m : MirrorView) (first : Content) (start : IsStart before m) (holds : Holds (geometry_of m.array) first (world_of m none_in_flight)) (final : MirrorView) (left : List Disk) where
  crash_in_call : (c : SessionCall) (es : List Event) (rest : List (List Event)) (t : Moment) (a : Content) → MirrorLifeWith m first es rest final t a
      → (none : AreNone t.requests) (new : MirrorView) (d : DoesCall c t.mirror new) → AreWhole (c ∷ []) → CrashesInCall t.requests none left c t.mirror new d
      → CrashesAlong (AreFirstOf (call_events c t.mirror new d)) t a left (IsClearOf (c ∷ []))
  crash_in_call SessionCall.Reading es rest t a life none new d whole stop = record {
    events = [];
    went = record { rest = []; order = refl };
    at = t;
    content = a;
    run = (at_rest t, refl);
    is_left = inl stop;
    resynced = λ before. before;
    same = λ s off. refl;
    quiet = λ s off. none_quiet t.mirror t.requests none s;
  }
  crash_in_call (SessionCall.Writing w) es rest t a life none new d whole stop =
      let plain = plain_life m first es rest final t a life in
      let all : List Event = events_of_write d.request d.events in
      let x = crashes_in_write before m start es rest final t plain w.0 w.1 new whole.0 d (none_there t.requests none t.mirror.array) left stop.0 stop.1 in
      fewer_aside (AreFirstOf all) (WriteIsAside w) (IsClearOf (SessionCall.Writing w ∷ [])) t a left (λ s off. off.0)
      (crash_along (AreFirstOf all) (WriteIsAside w) t a left all x (λ k u r. request_cut t none w d.begun d.request d.begins d.events d.steps true k u a r) (first_of all t left x))
  crash_in_call SessionCall.Clearing es rest t a life none new d whole stop =
      let plain = plain_life m first es rest final t a life in
      let x = crashes_in_stop before m start es rest final t plain new d (none_there t.requests none t.mirror.array) left stop.0 stop.1 in
      fewer_aside (AreFirstOf d.events) AllAside (IsClearOf (SessionCall.Clearing ∷ [])) t a left (λ s off. tt)
      (crash_along (AreFirstOf d.events) AllAside t a left d.events x (λ k u r. stop_cut k d.events d.steps t u a none r) (first_of d.events t left x))

  clear_first : (c : SessionCall) (cs : List SessionCall) (s : ℕ) → IsClearOf (c ∷ cs) s → IsClearOf (c ∷ []) s
  clear_first SessionCall.Reading cs s off = tt
  clear_first (SessionCall.Writing w) cs s off = (off.0, tt)
  clear_first SessionCall.Clearing cs s off = tt

  pub crash_in_calls : (cs : List SessionCall) (es : List Event) (rest : List (List Event)) (t : Moment) (a : Content) → MirrorLifeWith m first es rest final t a
      → (none : AreNone t.requests) (new : MirrorView) (d : DoesCalls t.mirror cs new) → AreWhole cs → (stop : CrashesInCalls t.requests none left cs t.mirror new d)
      → CrashesAlong (WentInCalls t.requests none left cs t.mirror new d stop) t a left (IsClearOf cs)
  crash_in_calls [] es rest t a life none new d whole stop = absurd stop
  crash_in_calls (c ∷ cs) es rest t a life none new d whole (inl here) =
      fewer_aside (AreFirstOf (call_events c t.mirror d.0 d.1)) (IsClearOf (c ∷ [])) (IsClearOf (c ∷ cs)) t a left (clear_first c cs)
      (crash_in_call c es rest t a life none d.0 d.1 (whole_first c cs whole) here)
  crash_in_calls (c ∷ cs) es rest t a life none new d whole (inr later) =
      let at = (life_held_at before m first start holds es rest final t a life).sound in
      let x = call_along c t at none d.0 d.1 later.0 a in
      let b : Content = content_after c a in
      let mid : Moment = record x.past { mirror = d.0; requests = t.requests } in
      let here_events : List Event = call_events c t.mirror d.0 d.1 in
      let Went : List Event → Type 0 = WentInCalls t.requests none left cs d.0 new d.2 later.1 in
      let on = life_on m first es rest final t a life here_events mid b x.run in
      crash_later here_events Went (IsClearOf (c ∷ cs)) t a b d.0 left x (call_settles c t at none d.0 d.1 later.0) (call_same c cs a)
      (fewer_aside Went (IsClearOf cs) (IsClearOf (c ∷ cs)) mid b left (clear_later c cs)
      (crash_in_calls cs on.0 on.1 mid b on.2 none new d.2 (whole_later c cs whole) later.1))

  -- ---- within a call that halted the mirror, or after it
  module _ (es : List Event) (rest : List (List Event)) (t : Moment) (a : Content) (life : MirrorLifeWith m first es rest final t a) (none : AreNone t.requests) (new : MirrorView) where
    abbrev plain : MirrorLife m es rest final t
    plain = plain_life m first es rest final t a life

    abbrev flight : AreInFlight t.mirror.array t.requests
    flight = none_there t.requests none t.mirror.array

    module _ (w : ArrayWrite) (h : HaltsWrite w.0 w.1 t.mirror new) where
      abbrev begun_first : Event
      begun_first = Event.Begin h.request.ticket.number (request_of h.request)

      write_cut : (more : List Event) → AllOf (IsOfRequest t.mirror.array.chunks h.request) more → (k : ℕ) (u : Moment) → MirrorRun t (take k (begun_first ∷ more)) u
          → IsCut (WriteIsAside w) t a (take k (begun_first ∷ more)) u
      write_cut more of k u r =
          let same : begun_first ∷ (more ++ []) ≡ begun_first ∷ more = ap (λ (l : List Event). begun_first ∷ l) (append-nil more) in
          subst (λ (l : List Event). IsCut (WriteIsAside w) t a (take k l) u) same
          (request_cut t none w h.begun h.request h.begins more of false k u a (subst (λ (l : List Event). MirrorRun t (take k l) u) (sym same) r))

      cut_before : IsCrashOf (begun_events h) t left → CrashesAlong (AreFirstOf (begun_events h)) t a left (WriteIsAside w)
      cut_before x = crash_along (AreFirstOf (begun_events h)) (WriteIsAside w) t a left (begun_events h) x (write_cut h.events h.steps) (first_of (begun_events h) t left x)

      cut_since : IsCrashAtHalt (begun_events h) h.failing t left → CrashesAlong (AreFirstOrInstead (begun_events h) h.failing) t a left (WriteIsAside w)
      cut_since (inl x) =
          went_too (AreFirstOf (begun_events h)) (AreFirstOrInstead (begun_events h) h.failing) (WriteIsAside w) t a left (λ events y. inl y) (cut_before x)
      cut_since (inr x) =
          let of = all_on (IsOfRequest t.mirror.array.chunks h.request) h.events x.instead h.steps
          (instead_of_request t.mirror.array.chunks h.request h.failing x.instead h.of x.is_instead) in
          crash_along (AreFirstOrInstead (begun_events h) h.failing) (WriteIsAside w) t a left (begun_events h ++ x.instead) (all_of (begun_events h) x.instead t left x.at x.run x.is_left)
          (write_cut (h.events ++ x.instead) of) (inr (record { instead = x.instead; is_instead = x.is_instead; order = refl }))

      write_stops : length w.1 % 512 ≡ 0 → (stop : CrashesAtHalt t.requests none left t.mirror new (inl (w, h)))
          → CrashesAlong (WentAtHalt t.requests none left t.mirror new (inl (w, h)) stop) t a left (WriteIsAside w)
      write_stops whole (inl among_events) =
          cut_before (crashes_in_halted_write before m start es rest final t plain w.0 w.1 new whole h flight left among_events.0 among_events.1)
      write_stops whole (inr since) = cut_since (crashes_at_halted_write before m start es rest final t plain w.0 w.1 new whole h flight since.0 left since.1.0 since.1.1)

    module _ (h : HaltsStop t.mirror new) where
      abbrev stop_events : List Event
      stop_events = h.goes.events

      stop_before : IsCrashOf stop_events t left → CrashesAlong (AreFirstOf stop_events) t a left AllAside
      stop_before x = crash_along (AreFirstOf stop_events) AllAside t a left stop_events x (λ k u r. stop_cut k stop_events h.goes.steps t u a none r) (first_of stop_events t left x)

      stop_since : IsCrashAtHalt stop_events h.halts.failing t left → CrashesAlong (AreFirstOrInstead stop_events h.halts.failing) t a left AllAside
      stop_since (inl x) = went_too (AreFirstOf stop_events) (AreFirstOrInstead stop_events h.halts.failing) AllAside t a left (λ events y. inl y) (stop_before x)
      stop_since (inr x) =
          let of = all_on IsStopping stop_events x.instead h.goes.steps (instead_of_stop (clears_marks t.mirror.array) h.halts.failing x.instead h.halts.of x.is_instead) in
          crash_along (AreFirstOrInstead stop_events h.halts.failing) AllAside t a left (stop_events ++ x.instead) (all_of stop_events x.instead t left x.at x.run x.is_left)
          (λ k u r. stop_cut k (stop_events ++ x.instead) of t u a none r) (inr (record { instead = x.instead; is_instead = x.is_instead; order = refl }))

      stop_stops : (stop : CrashesAtHalt t.requests none left t.mirror new (inr h)) → CrashesAlong (WentAtHalt t.requests none left t.mirror new (inr h) stop) t a left AllAside
      stop_stops (inl among_events) = stop_before (crashes_in_stop before m start es rest final t plain h.halts.mid h.goes flight left among_events.0 among_events.1)
      stop_stops (inr since) = stop_since (crashes_at_halted_stop before m start es rest final t plain new h flight since.0 left since.1.0 since.1.1)

    pub crash_at_halt : (h : HaltsInCall t.mirror new) → IsWholeHalt t.mirror new h → (stop : CrashesAtHalt t.requests none left t.mirror new h)
        → CrashesAlong (WentAtHalt t.requests none left t.mirror new h stop) t a left (IsClearOfHalt t.mirror new h)
    crash_at_halt (inl h) whole stop = write_stops h.0 h.1 whole stop
    crash_at_halt (inr h) whole stop =
        fewer_aside (WentAtHalt t.requests none left t.mirror new (inr h) stop) AllAside (IsClearOfHalt t.mirror new (inr h)) t a left (λ s off. tt) (stop_stops h stop)
