-- A crash within a whole write, and within a whole `stop`, is a crash of a run.
use Rattle.std.proofs.Common.{◌≡◌, ◌∙◌, inl, inr, ℕ, ◌%◌, Bool, true, false, List, [], ◌∷◌, ◌++◌, length, None, sym, ap, subst}
use Rattle.std.proofs.lemmas.List.{append-nil}
use Rattle.std.proofs.lemmas.Option.{none-some}
use Rattle.md_inflight.specs.Inflight.{lookup}
use Rattle.md_model.specs.Events.{Event, MemberPart}
use Rattle.md_inflight.specs.Requests.Pending.{PendingView}
use Rattle.md_state.specs.Steps.Begin.{Begins}
use Rattle.md_state.specs.Requests.{AreInFlight, among, request_of}
use Rattle.md_state.specs.View.{MirrorView}
use Rattle.md_array.specs.InTurn.{AllOf, Requests}
use Rattle.md_array.proofs.StepLemmas.Turns.{all_on, all_such}
use Rattle.md_laws.specs.CallCrashes.{HaveWholeSectors, BeginsWhole, HasWholeSectors, IsWrittenBy}
use Rattle.md_laws.proofs.Crashes.DataInFlight.{has_whole}
use Rattle.md_laws.proofs.Crashes.CallCrashes.{crashes_at_halts, crashes_at_steps}
use Rattle.md_metadata.specs.Stopping.{IsStopping, IsStoringIf, clears_marks}
use Rattle.md_write.specs.Progress.{IsEventOf, end_chunk, first_chunk}
use Rattle.md_write.specs.WriteCrashes.{CrashesHaltingStop, CrashesHaltingWrite, CrashesInHaltedWrite, CrashesInStop, CrashesInWrite, begun_events}
use Rattle.md_write.specs.Writing.{events_of_write}

-- ---- which requests are written, and which begun
-- these events write no request's bytes but those of this number, and none begins
record WritesAlone (n : ℕ) (es : List Event) : Type 0 where
  alone : (m : ℕ) → IsWrittenBy m es → m ≡ n
  begun : AllOf BeginsWhole es

written_alone : (n first end : ℕ) (e : Event) (es : List Event) → IsEventOf n first end e → WritesAlone n es → WritesAlone n (e ∷ es)
written_alone n first end (Event.WriteMember m k) es of rest = record { alone = λ j w. elim w [ inl here ↦ sym here ∙ of | inr later ↦ rest.alone j later ]; begun = (tt, rest.begun) }
written_alone n first end (Event.WriteFails k (MemberPart.RequestData m)) es of rest = record { alone = λ j w. elim w [ inl here ↦ sym here ∙ of | inr later ↦ rest.alone j later ]; begun = (tt, rest.begun) }
written_alone n first end (Event.Record k) es of rest = record { alone = rest.alone; begun = (tt, rest.begun) }
written_alone n first end (Event.WriteFails k MemberPart.Superblock) es of rest = record { alone = rest.alone; begun = (tt, rest.begun) }
written_alone n first end (Event.LowerOffset k s) es of rest = record { alone = rest.alone; begun = (tt, rest.begun) }
written_alone n first end (Event.StoreMarks k b) es of rest = record { alone = rest.alone; begun = (tt, rest.begun) }
written_alone n first end (Event.WriteFails k (MemberPart.BitmapSector b)) es of rest = record { alone = rest.alone; begun = (tt, rest.begun) }
written_alone n first end e es of rest = absurd of

all_alone : (n first end : ℕ) (es more : List Event) → AllOf (IsEventOf n first end) es → WritesAlone n more → WritesAlone n (es ++ more)
all_alone n first end [] more of rest = rest
all_alone n first end (e ∷ es) more of rest = written_alone n first end e (es ++ more) of.0 (all_alone n first end es more of.1 rest)

-- the request that begins is not in flight before
module _ (sector : ℕ) (bytes : List ℕ) (old begun : MirrorView) (p : PendingView) (begins : Begins sector bytes old begun p) (whole : length bytes % 512 ≡ 0) where
  fresh : lookup old.array.requests.entries p.ticket.number ≡ None
  fresh = subst (λ (x : PendingView). lookup old.array.requests.entries x.ticket.number ≡ None) (sym begins.pending) begins.fresh

  begins_whole : HasWholeSectors (request_of p)
  begins_whole = has_whole p (ap (λ (x : PendingView). length x.bytes % 512) begins.pending ∙ whole)

  write_whole : (requests : Requests) → AreInFlight old.array requests → (es : List Event) → WritesAlone p.ticket.number es → HaveWholeSectors (Event.Begin p.ticket.number (request_of p) ∷ es) requests
  write_whole requests in_flight es alone = record {
    in_flight = λ n r writes at.
        let same : n ≡ p.ticket.number = alone.alone n writes in
        absurd (none-some _ (sym fresh ∙ ap (lookup old.array.requests.entries) (sym same) ∙ in_flight n r at));
    begun = (begins_whole, alone.begun);
  }

-- ---- of a write
finish_alone : (n : ℕ) → WritesAlone n (Event.Finish n ∷ [])
finish_alone n = record { alone = λ m w. absurd w; begun = (tt, tt) }

none_alone : (n : ℕ) → WritesAlone n []
none_alone n = record { alone = λ m w. absurd w; begun = tt }

pub crashes_in_write : CrashesInWrite
crashes_in_write before m start events rest final t life sector bytes new whole w in_flight left stop until =
    let p = w.request in
    let chunks = t.mirror.array.chunks in
    let alone = all_alone p.ticket.number (first_chunk chunks p) (end_chunk chunks p) w.events (Event.Finish p.ticket.number ∷ []) w.steps (finish_alone p.ticket.number) in
    crashes_at_steps before m start events rest final t life (events_of_write p w.events) None new t.requests (w.happens None t.requests in_flight).done
    (write_whole sector bytes t.mirror w.begun p w.begins whole t.requests in_flight (w.events ++ Event.Finish p.ticket.number ∷ []) alone) left stop until

pub crashes_in_halted_write : CrashesInHaltedWrite
crashes_in_halted_write before m start events rest final t life sector bytes new whole h in_flight left stop until =
    let p = h.request in
    let chunks = t.mirror.array.chunks in
    let alone = subst (WritesAlone p.ticket.number) (append-nil h.events) (all_alone p.ticket.number (first_chunk chunks p) (end_chunk chunks p) h.events [] h.steps (none_alone p.ticket.number)) in
    crashes_at_steps before m start events rest final t life (begun_events h) None h.mid (among h.last t.requests) (h.happens None t.requests in_flight)
    (write_whole sector bytes t.mirror h.begun p h.begins whole t.requests in_flight h.events alone) left stop until

pub crashes_halting_write : CrashesHaltingWrite
crashes_halting_write before m start events rest final t life sector bytes new whole h in_flight all left within asked =
    let p = h.request in
    let n = p.ticket.number in
    let chunks = t.mirror.array.chunks in
    let last = written_alone n (first_chunk chunks p) (end_chunk chunks p) h.failing [] h.of (none_alone n) in
    let alone = all_alone n (first_chunk chunks p) (end_chunk chunks p) h.events (h.failing ∷ []) h.steps last in
    crashes_at_halts before m start events rest final t life (begun_events h) None h.mid (among h.last t.requests) (h.happens None t.requests in_flight) all h.failing new (h.halts t.requests)
    (write_whole sector bytes t.mirror h.begun p h.begins whole t.requests in_flight (h.events ++ h.failing ∷ []) alone) left within asked

-- ---- of a `stop`
-- no request is written or begun
none_of : (e : Event) (es : List Event) → IsStopping e → ((n : ℕ) → IsWrittenBy n es → ⊥) → (n : ℕ) → IsWrittenBy n (e ∷ es) → ⊥
none_of (Event.WriteMember m k) es of rest n writes = absurd of
none_of (Event.WriteFails k (MemberPart.RequestData m)) es of rest n writes = absurd of
none_of e es of rest n writes = rest n writes

none_written : (es : List Event) → AllOf IsStopping es → (n : ℕ) → IsWrittenBy n es → ⊥
none_written [] of n writes = writes
none_written (e ∷ es) of n writes = none_of e es of.0 (none_written es of.1) n writes

no_begin : (e : Event) → IsStopping e → BeginsWhole e
no_begin (Event.Begin n r) of = absurd of
no_begin e of = tt

stop_whole : (es : List Event) (requests : Requests) → AllOf IsStopping es → HaveWholeSectors es requests
stop_whole es requests of = record { in_flight = λ n r writes at. absurd (none_written es of n writes); begun = all_such IsStopping BeginsWhole no_begin es of }

pub crashes_in_stop : CrashesInStop
crashes_in_stop before m start events rest final t life mid g in_flight left stop until =
    crashes_at_steps before m start events rest final t life g.events None mid t.requests (g.leads None t.requests in_flight) (stop_whole g.events t.requests g.steps) left stop until

storing_stops : (clears : Bool) (e : Event) → IsStoringIf clears e → IsStopping e
storing_stops true (Event.Record k) of = tt
storing_stops true (Event.StoreMarks k b) of = tt
storing_stops true (Event.WriteFails k MemberPart.Superblock) of = tt
storing_stops true (Event.WriteFails k (MemberPart.BitmapSector b)) of = tt
storing_stops true e of = absurd of
storing_stops false (Event.Record k) of = tt
storing_stops false (Event.StoreMarks k b) of = tt
storing_stops false (Event.WriteFails k MemberPart.Superblock) of = tt
storing_stops false (Event.WriteFails k (MemberPart.BitmapSector b)) of = tt
storing_stops false e of = absurd of

pub crashes_halting_stop : CrashesHaltingStop
crashes_halting_stop before m start events rest final t life new h in_flight all left within asked =
    let last : AllOf IsStopping (h.halts.failing ∷ []) = (storing_stops (clears_marks t.mirror.array) h.halts.failing h.halts.of, tt) in
    crashes_at_halts before m start events rest final t life h.goes.events None h.halts.mid t.requests (h.goes.leads None t.requests in_flight) all h.halts.failing new (h.halts.halts t.requests)
    (stop_whole (h.goes.events ++ h.halts.failing ∷ []) t.requests (all_on IsStopping h.goes.events (h.halts.failing ∷ []) h.goes.steps last)) left within asked
