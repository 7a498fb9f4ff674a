-- The content goes along the calls of a session: only a write changes it.
use Rattle.std.proofs.Common.{◌≡◌, ◌∙◌, ℕ, List, [], ◌∷◌, ◌++◌, Option, Some, None, refl, sym, ap, subst}
use Rattle.md_inflight.specs.Requests.Pending.{PendingView}
use Rattle.md_model.specs.Content.{Becomes, Content, with_request}
use Rattle.md_model.specs.Events.{Event}
use Rattle.md_model.specs.Sectors.{Geometry}
use Rattle.md_model.specs.Worlds as worlds
use Rattle.md_model.specs.Worlds.{Request, World}
use Rattle.md_state.specs.Requests.{request_of}
use Rattle.md_state.specs.Rests.{Rests}
use Rattle.md_state.specs.View.{MirrorView, geometry_of}
use Rattle.md_array.specs.Consistency.{IsConsistent}
use Rattle.md_array.specs.InTurn.{AllOf, Requests}
use Rattle.md_array.specs.Worlds.{world_of}
use Rattle.md_array.proofs.Worlds.InSync.{in_sync_is, number_at}
use Rattle.md_laws.specs.Runs.{MirrorRun, MirrorRunWith, Moment, RestsThenDoes, then_as}
use Rattle.md_laws.proofs.Runs.CallRuns.{call_is_run}
use Rattle.md_laws.proofs.Runs.ContentRuns.{without_content}
use Rattle.md_laws.proofs.Runs.Moments.{IsSoundAt, run_keeps}
use Rattle.md_laws.proofs.Runs.Rests.{rests_does, rests_same}
use Rattle.md_metadata.specs.Stopping.{IsStopping}
use Rattle.md_write.specs.Progress.{IsEventOf, end_chunk, first_chunk}
use Rattle.md_write.specs.Writing.{Writes, events_of_write}
use Rattle.md_write.proofs.Received.{IsReceiving, receives_begin, receives_step}
use Rattle.md_call_laws.proofs.RebuildLemmas.RebuildRun.{run_with_then}
use Rattle.md_serve_commands.specs.Told.{ArrayWrite}
use Rattle.md_serve_commands.specs.Calls.{AreNone, CallLeftWhole, CallsLeftWhole, DoesCall, DoesCalls, GoesAlong, SessionCall, call_events, calls_events, content_after, contents_after, none_there, with_write}

-- ---- along the events of a request that has begun
module _ (n low high : ℕ) (p : Request) (first : World) where
  pub receives_next : (t : Moment) (e : Event) (m : MirrorView) (r : Requests) → IsEventOf n low high e → RestsThenDoes t.mirror t.requests e m r
      → IsReceiving n p first (world_of t.mirror t.requests) → IsReceiving n p first (world_of m r)
  receives_next t e m r of does is =
      receives_step n p first (world_of t.mirror t.requests) is (geometry_of t.mirror.array) low high e (world_of m r) of
      (rests_does t.mirror m t.requests r e does).step

  pub becomes_same : (e : Event) → IsEventOf n low high e → (g : Geometry) (w : World) (a : Content) → Becomes g e w a a
  becomes_same (Event.Record k) of g w a = refl
  becomes_same (Event.LowerOffset k s) of g w a = refl
  becomes_same (Event.StoreMarks k b) of g w a = refl
  becomes_same (Event.WriteMember m k) of g w a = refl
  becomes_same (Event.WriteFails k part) of g w a = refl
  becomes_same e of g w a = absurd of

  pub finish_becomes : (t : Moment) (m : MirrorView) (r : Requests) (a : Content) → RestsThenDoes t.mirror t.requests (Event.Finish n) m r
      → IsReceiving n p first (world_of t.mirror t.requests) → with_request (Some p) a ≡ with_request (t.requests n) a
  finish_becomes t m r a does is =
      let step = (rests_does t.mirror m t.requests r (Event.Finish n) does).step in
      let q = step.1.0 in
      let flight : t.requests n ≡ Some q = step.1.1.in_flight in
      let same : q ≡ record p { written = q.written } = is.request q flight in
      ap (λ (x : Request). with_request (Some x) a) (sym same) ∙ ap (λ (x : Option Request). with_request x a) (sym flight)

  pub write_on : (es : List Event) → AllOf (IsEventOf n low high) es → (t u : Moment) (a : Content) → IsReceiving n p first (world_of t.mirror t.requests)
      → MirrorRun t (es ++ Event.Finish n ∷ []) u → MirrorRunWith t a (es ++ Event.Finish n ∷ []) u (with_request (Some p) a)
  write_on [] of t u a is r = (r.0, r.1, with_request (Some p) a, r.2, finish_becomes t r.0 r.1 a r.2 is, (r.3, refl))
  write_on (e ∷ es) of t u a is r = (
    r.0,
    r.1,
    a,
    r.2,
    becomes_same e of.0 (geometry_of t.mirror.array) (world_of t.mirror t.requests) a,
    write_on es of.1 (then_as t e r.0 r.1) u a (receives_next t e r.0 r.1 of.0 r.2 is) r.3,
  )

-- no two members in sync of a sound mirror have the same number
pub distinct : (v : MirrorView) → IsConsistent v → (requests : Requests) (j k : ℕ) → worlds.IsInSync (world_of v requests) j → worlds.IsInSync (world_of v requests) k
    → (world_of v requests).number j ≡ (world_of v requests).number k → j ≡ k
distinct v sound requests j k at_j at_k same =
    let x = in_sync_is v.disks v.array requests j at_j in
    let y = in_sync_is v.disks v.array requests k at_k in
    sound.roles.numbers j k x.0 y.0 x.1.member y.1.member
    (sym (number_at v.disks v.array requests j x.0 x.1.member) ∙ same ∙ number_at v.disks v.array requests k y.0 y.1.member)

-- ---- along a write
module _ (t : Moment) (w : ArrayWrite) (new : MirrorView) (d : Writes w.0 w.1 t.mirror new) where
  abbrev p : PendingView
  p = d.request

  abbrev n : ℕ
  n = d.request.ticket.number

  abbrev begun : Event
  begun = Event.Begin n (request_of p)

  abbrev more : List Event
  more = d.events ++ Event.Finish n ∷ []

  pub begun_receives : (m : MirrorView) (r : Requests) → RestsThenDoes t.mirror t.requests begun m r → IsReceiving n (request_of p) (world_of t.mirror t.requests) (world_of m r)
  begun_receives m r does =
      let leads = rests_does t.mirror m t.requests r begun does in
      receives_begin (geometry_of t.mirror.array) n (request_of p) (world_of t.mirror t.requests) (world_of m r) leads.step (distinct m leads.sound r)

  pub written_is : (a : Content) → with_request (Some (request_of p)) a ≡ with_write w a
  written_is a = ap (λ (x : PendingView). with_request (Some (request_of x)) a) d.begins.pending

  write_run : (u : Moment) (a : Content) → MirrorRun t (begun ∷ more) u → MirrorRunWith t a (begun ∷ more) u (with_write w a)
  write_run u a r = subst (λ (b : Content). MirrorRunWith t a (begun ∷ more) u b) (written_is a) (
    r.0,
    r.1,
    a,
    r.2,
    refl,
    write_on n (first_chunk t.mirror.array.chunks p) (end_chunk t.mirror.array.chunks p) (request_of p) (world_of t.mirror t.requests) d.events d.steps (then_as t begun r.0 r.1) u a
        (begun_receives r.0 r.1 r.2) r.3,
  )

-- ---- along a `stop`
pub stop_becomes : (e : Event) → IsStopping e → (g : Geometry) (w : World) (a : Content) → Becomes g e w a a
stop_becomes (Event.ClearIdle c) of g w a = refl
stop_becomes Event.MakeClean of g w a = refl
stop_becomes (Event.Record k) of g w a = refl
stop_becomes (Event.StoreMarks k b) of g w a = refl
stop_becomes (Event.WriteFails k part) of g w a = refl
stop_becomes e of g w a = absurd of

pub stop_run : (es : List Event) → AllOf IsStopping es → (t u : Moment) (a : Content) → MirrorRun t es u → MirrorRunWith t a es u a
stop_run [] of t u a r = (r, refl)
stop_run (e ∷ es) of t u a r =
    (r.0, r.1, a, r.2, stop_becomes e of.0 (geometry_of t.mirror.array) (world_of t.mirror t.requests) a, stop_run es of.1 (then_as t e r.0 r.1) u a r.3)

-- ---- along calls
-- where a run comes to
pub comes_there : (t : Moment) (es : List Event) (new : MirrorView) → (r : (last : Moment) × MirrorRun t es last × ((last.mirror ≡ new) × (last.requests ≡ t.requests)))
    → MirrorRun t es (record r.0 { mirror = new; requests = t.requests })
comes_there t es new r = subst (MirrorRun t es) (λ i. record r.0 { mirror = r.2.0 i; requests = r.2.1 i }) r.1

pub call_along : (c : SessionCall) (t : Moment) → IsSoundAt t → (none : AreNone t.requests) (new : MirrorView) (d : DoesCall c t.mirror new) → CallLeftWhole t.requests none c t.mirror new d
    → (a : Content) → GoesAlong (call_events c t.mirror new d) t a new (content_after c a)
call_along SessionCall.Reading t at none new d whole a = record { past = t; run = (record { rests = d; is = refl }, refl) }
call_along (SessionCall.Writing w) t at none new d whole a =
    let es : List Event = events_of_write d.request d.events in
    let leads = (d.happens None t.requests (none_there t.requests none t.mirror.array)).done in
    let r = call_is_run es None t new t.requests leads at.honest whole in
    record { past = r.0; run = write_run t w new d (record r.0 { mirror = new; requests = t.requests }) a (comes_there t es new r) }
call_along SessionCall.Clearing t at none new d whole a =
    let leads = d.leads None t.requests (none_there t.requests none t.mirror.array) in
    let r = call_is_run d.events None t new t.requests leads at.honest whole in
    record { past = r.0; run = stop_run d.events d.steps t (record r.0 { mirror = new; requests = t.requests }) a (comes_there t d.events new r) }

pub same_along : (t : Moment) (new : MirrorView) (a : Content) → new ≡ t.mirror → GoesAlong [] t a new a
same_along t new a same = record { past = t; run = (record { rests = subst (Rests t.mirror) (sym same) (rests_same t.mirror); is = refl }, refl) }

pub along_then : (es fs : List Event) (t : Moment) (a b c : Content) (mid new : MirrorView) (x : GoesAlong es t a mid b)
    → GoesAlong fs (record x.past { mirror = mid; requests = t.requests }) b new c → GoesAlong (es ++ fs) t a new c
along_then es fs t a b c mid new x y = record {
  past = y.past;
  run = run_with_then es fs t (record x.past { mirror = mid; requests = t.requests }) (record y.past { mirror = new; requests = t.requests }) a b c x.run y.run;
}

pub sound_along : (es : List Event) (t : Moment) (a b : Content) (mid : MirrorView) (x : GoesAlong es t a mid b) → IsSoundAt t → IsSoundAt (record x.past { mirror = mid; requests = t.requests })
sound_along es t a b mid x at =
    let u : Moment = record x.past { mirror = mid; requests = t.requests } in
    run_keeps es t u (without_content es t a u b x.run) at

pub calls_along : (cs : List SessionCall) (t : Moment) → IsSoundAt t → (none : AreNone t.requests) (new : MirrorView) (d : DoesCalls t.mirror cs new) → CallsLeftWhole t.requests none cs t.mirror new d
    → (a : Content) → GoesAlong (calls_events cs t.mirror new d) t a new (contents_after cs a)
calls_along [] t at none new d whole a = same_along t new a d
calls_along (c ∷ cs) t at none new d whole a =
    let x = call_along c t at none d.0 d.1 whole.0 a in
    let b : Content = content_after c a in
    along_then (call_events c t.mirror d.0 d.1) (calls_events cs d.0 new d.2) t a b (contents_after cs b) d.0 new x
    (calls_along cs (record x.past { mirror = d.0; requests = t.requests }) (sound_along (call_events c t.mirror d.0 d.1) t a b d.0 x at) none new d.2 whole.1 b)
