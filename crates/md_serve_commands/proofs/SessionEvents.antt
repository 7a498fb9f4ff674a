-- A session is a list of events, between which devices are read.
use Rattle.std.proofs.Common.{◌≡◌, ◌∙◌, inl, inr, ⊎_elim, ℕ, Bool, true, false, List, [], ◌∷◌, ◌++◌, Option, Some, refl, sym, ap, subst, true≢false}
use Rattle.md_model.specs.Events.{Event}
use Rattle.md_faults.specs.declared.step_fault.BeginFault.{BeginFault}
use Rattle.md_faults.specs.declared.step_fault.BeginFault.TheVariants as begin
use Rattle.md_inflight.specs.Inflight.{lookup}
use Rattle.md_state.specs.Requests.{among}
use Rattle.md_state.specs.Rests.{Rests}
use Rattle.md_state.specs.View.{ArrayView, MirrorView}
use Rattle.md_array.specs.InTurn.{Leads, Requests}
use Rattle.md_array.proofs.StepLemmas.FailedParts.{halted_then}
use Rattle.md_laws.specs.ReadInTurn.{LeadsReading}
use Rattle.md_laws.proofs.Runs.Rests.{rests_same, rests_then}
use Rattle.md_metadata.specs.declared.stop_fault.StopFault.{StopFault}
use Rattle.md_metadata.specs.declared.stop_fault.StopFault.TheVariants as stop
use Rattle.md_metadata.specs.Going.{LeadsBy}
use Rattle.md_metadata.specs.Stopping.{IsStopping, RefusesStop}
use Rattle.md_read.specs.declared.fault.UnreadFault.{UnreadFault}
use Rattle.md_read.specs.declared.fault.UnreadFault.TheVariants as unread
use Rattle.md_read.specs.Reading.{RefusesRead}
use Rattle.md_write.specs.Writing.{RefusesWrite, Writes, events_of_write}
use Rattle.md_commands.proofs.DeviceCounts.{nothing}
use Rattle.md_nbd.specs.declared.export.Export.{Export}
use Rattle.md_nbd.specs.declared.task.Task.{Task}
use Rattle.md_nbd.specs.declared.task.Task.TheVariants as task
use Rattle.md_nbd.specs.NbdTasks.{task_of}
use Rattle.md_nbd.specs.Server.Exchanges.{AnswersInTurn, DoesTask, Exchange}
use Rattle.md_serve_commands.specs.declared.writer.ArrayWriter.{ArrayWriter}
use Rattle.md_serve_commands.specs.Waiting.{ClearsMarks, FailsToClear, FailsToFlush, FailsToRead, FailsWaiting, FailsToTake, FlushesAll, ReadsBehind, RunsOn, WritesWaiting, TakesWrite, WritesThrough, writer_store}
use Rattle.md_serve_commands.specs.Told.{GoesByEvents}
use Rattle.md_serve_commands.proofs.Halted.{session_halted}

-- ---- lists of events with reads between
leads_reading : (es : List Event) (previous : Option Event) (old new : MirrorView) (before after : Requests) → Leads previous old before es new after → LeadsReading previous old before es new after
leads_reading [] previous old new before after t = (old, rests_same old, t)
leads_reading (e ∷ es) previous old new before after t =
    (old, t.0, t.1, rests_same old, t.2, t.3, t.4, leads_reading es (Some e) t.0 new t.1 after t.5)

-- devices are read before them
reads_first : (es : List Event) (previous : Option Event) (old mid new : MirrorView) (before after : Requests) → Rests old mid → LeadsReading previous mid before es new after
    → LeadsReading previous old before es new after
reads_first [] previous old mid new before after rests t = (t.0, rests_then old mid t.0 rests t.1, t.2)
reads_first (e ∷ es) previous old mid new before after rests t = (t.0, t.1, t.2, rests_then old mid t.0 rests t.3, t.4, t.5, t.6, t.7)

leads_then : (es fs : List Event) (previous : Option Event) (old mid new : MirrorView) (before between after : Requests) → LeadsReading previous old before es mid between
    → ((p : Option Event) → LeadsReading p mid between fs new after) → LeadsReading previous old before (es ++ fs) new after
leads_then [] fs previous old mid new before between after t next =
    reads_first fs previous old t.0 new before after t.1
    (subst (λ (r : Requests). LeadsReading previous t.0 r fs new after) (sym t.2.1)
    (subst (λ (m : MirrorView). LeadsReading previous m between fs new after) (sym t.2.0) (next previous)))
leads_then (e ∷ es) fs previous old mid new before between after t next =
    (t.0, t.1, t.2, t.3, t.4, t.5, t.6, leads_then es fs (Some e) t.1 mid new t.2 between after t.7 next)

-- ---- one request
goes_reading : (old new : MirrorView) → Rests old new → GoesByEvents old new
goes_reading old new rests = record {
  events = [];
  leads = λ previous requests in_flight. (new, rests, (refl, refl));
  entries = ap (λ (a : ArrayView). a.requests.entries) rests.array;
}

goes_nowhere : (old new : MirrorView) → new ≡ old → GoesByEvents old new
goes_nowhere old new same = subst (λ (m : MirrorView). GoesByEvents old m) (sym same) (goes_reading old old (rests_same old))

goes_stopping : (old new : MirrorView) → LeadsBy IsStopping old new → GoesByEvents old new
goes_stopping old new by = record {
  events = by.events;
  leads = λ previous requests in_flight. leads_reading by.events previous old new requests requests (by.leads previous requests in_flight);
  entries = ap (λ r. r.entries) by.requests;
}

goes_then : (old mid new : MirrorView) → GoesByEvents old mid → GoesByEvents mid new → GoesByEvents old new
goes_then old mid new first second = record {
  events = first.events ++ second.events;
  leads = λ previous requests in_flight.
      leads_then first.events second.events previous old mid new requests requests requests (first.leads previous requests in_flight)
      (λ p. second.leads p requests (λ n r is. ap (λ l. lookup l n) first.entries ∙ in_flight n r is));
  entries = second.entries ∙ first.entries;
}

written : (sector : ℕ) (bytes : List ℕ) (old new : MirrorView) → Writes sector bytes old new → GoesByEvents old new
written sector bytes old new w = record {
  events = events_of_write w.request w.events;
  leads = λ previous requests in_flight.
      leads_reading (events_of_write w.request w.events) previous old new requests requests (w.happens previous requests in_flight).done;
  entries = w.entries;
}

module _ (old new : MirrorView) (running : new.array.halted ≡ false) where
  not_read : (fault : UnreadFault) (sector : ℕ) (bytes : List ℕ) → RefusesRead sector bytes old new fault → GoesByEvents old new
  not_read unread.Halted sector bytes h = goes_nowhere old new h.unchanged
  not_read unread.OutOfRange sector bytes h = goes_nowhere old new h.unchanged
  not_read unread.NotResynced sector bytes h = goes_nowhere old new h.unchanged
  not_read (unread.Unreadable s) sector bytes h = goes_reading old new h.1.rests

  not_written : (fault : BeginFault) (sector : ℕ) (bytes : List ℕ) → RefusesWrite sector bytes old new fault → GoesByEvents old new
  not_written begin.Halted sector bytes (inl h) = goes_nowhere old new h.unchanged
  not_written begin.Halted sector bytes (inr h) =
      absurd (true≢false (sym (halted_then h.mid new (among h.last nothing) h.failing (h.halts nothing)) ∙ running))
  not_written begin.OutOfRange sector bytes h = goes_nowhere old new h.unchanged
  not_written (begin.Overlaps n) sector bytes h = goes_nowhere old new h.unchanged
  not_written begin.NotResynced sector bytes h = goes_nowhere old new h.unchanged
  not_written begin.EventsFull sector bytes h = goes_nowhere old new h.unchanged
  not_written begin.NumbersSpent sector bytes h = goes_nowhere old new h.unchanged
  not_written begin.NoMemory sector bytes h = goes_nowhere old new h.unchanged

  runs_on : (fault : StopFault) → RunsOn old new fault → GoesByEvents old new
  runs_on stop.Halted h = absurd h
  runs_on (stop.InFlight n) h = goes_nowhere old new h.unchanged
  runs_on stop.EventsFull h = goes_nowhere old new h.unchanged
  runs_on (stop.MemberFailed k) h = goes_stopping old new h.goes

  stop_halted : RefusesStop old new stop.Halted → GoesByEvents old new
  stop_halted (inl h) = goes_nowhere old new h.unchanged
  stop_halted (inr h) = absurd (true≢false (sym (halted_then h.halts.mid new nothing h.halts.failing (h.halts.halts nothing)) ∙ running))

  cleared : ClearsMarks old new → GoesByEvents old new
  cleared h = ⊎_elim (λ s. goes_stopping old new s.goes) (λ r. runs_on r.0 r.1) h.stops

  uncleared : FailsToClear old new → GoesByEvents old new
  uncleared h = ⊎_elim (λ r. goes_nowhere old new r.unchanged) (λ r. stop_halted r.1) h.0

-- ---- what waits
waited : (w : ArrayWriter) (old new : MirrorView) → WritesWaiting w old new → GoesByEvents old new
waited w old new (inl h) = goes_nowhere old new h.1
waited w old new (inr h) = written w.start w.run.items old new h.0

module _ (p q : ArrayWriter × MirrorView) where
  behind : (mid : MirrorView) → WritesWaiting p.0 p.1 mid → GoesByEvents mid q.1 → GoesByEvents p.1 q.1
  behind mid h on = goes_then p.1 mid q.1 (waited p.0 p.1 mid h) on

  was_read : (sector : ℕ) (bytes : List ℕ) → ReadsBehind p q sector bytes → GoesByEvents p.1 q.1
  was_read sector bytes h = behind h.mid h.waited (goes_reading h.mid q.1 h.given.0.rests)

  was_through : (sector : ℕ) (bytes : List ℕ) → WritesThrough p q sector bytes → GoesByEvents p.1 q.1
  was_through sector bytes h = behind h.mid h.waited (written sector bytes h.mid q.1 h.written.0)

  was_taken : (sector : ℕ) (bytes : List ℕ) (through : Bool) → TakesWrite p q sector bytes through → GoesByEvents p.1 q.1
  was_taken sector bytes true h = was_through sector bytes h
  was_taken sector bytes false (inl h) = goes_nowhere p.1 q.1 h.mirror
  was_taken sector bytes false (inr (inl h)) = waited p.0 p.1 q.1 h.waited
  was_taken sector bytes false (inr (inr h)) = was_through sector bytes h

  module _ (running : q.1.array.halted ≡ false) where
    fails : FailsWaiting p q → GoesByEvents p.1 q.1
    fails h = not_written p.1 q.1 running h.fault p.0.start p.0.run.items h.refused.refused

    was_unread : (sector sectors : ℕ) → FailsToRead p q sector sectors → GoesByEvents p.1 q.1
    was_unread sector sectors (inl h) = fails h
    was_unread sector sectors (inr h) = behind h.mid h.waited (not_read h.mid q.1 running h.refused.fault sector h.refused.bytes h.refused.refused)

    was_untaken : (sector : ℕ) (bytes : List ℕ) → FailsToTake p q sector bytes → GoesByEvents p.1 q.1
    was_untaken sector bytes (inl h) = goes_nowhere p.1 q.1 h.mirror
    was_untaken sector bytes (inr (inl h)) = fails h
    was_untaken sector bytes (inr (inr (inl h))) = waited p.0 p.1 q.1 h.waited
    was_untaken sector bytes (inr (inr (inr h))) = behind h.mid h.waited (not_written h.mid q.1 running h.refused.fault sector bytes h.refused.refused)

    was_flushed : FlushesAll p q → GoesByEvents p.1 q.1
    was_flushed h = behind h.mid h.waited (⊎_elim (λ s. goes_nowhere h.mid q.1 s) (λ c. cleared h.mid q.1 running c) h.marks)

    was_unflushed : FailsToFlush p q → GoesByEvents p.1 q.1
    was_unflushed (inl h) = goes_nowhere p.1 q.1 h.mirror
    was_unflushed (inr (inl h)) = fails h
    was_unflushed (inr (inr h)) = behind h.mid h.waited (uncleared h.mid q.1 running h.refused)

task_goes : (t : Task) (cookie : ℕ) (payload : List ℕ) (old new : ArrayWriter × MirrorView) (reply : List ℕ) → new.1.array.halted ≡ false → DoesTask writer_store t cookie payload old new reply
    → GoesByEvents old.1 new.1
task_goes (task.Read sector sectors) cookie payload old new reply running (inl h) = was_read old new sector h.bytes h.read
task_goes (task.Read sector sectors) cookie payload old new reply running (inr h) = was_unread old new running sector sectors h.0
task_goes (task.Write sector sectors through) cookie payload old new reply running (inl h) = was_taken old new sector payload through h.0
task_goes (task.Write sector sectors through) cookie payload old new reply running (inr h) = was_untaken old new running sector payload h.0
task_goes task.Flush cookie payload old new reply running (inl h) = was_flushed old new running h.0
task_goes task.Flush cookie payload old new reply running (inr h) = was_unflushed old new running h.0
task_goes task.Disconnect cookie payload old new reply running h = absurd h
task_goes (task.Refuse error) cookie payload old new reply running h = goes_nowhere old.1 new.1 (ap (λ (p : ArrayWriter × MirrorView). p.1) h.0)

-- ---- a session
-- a mirror that runs at the end ran before
ran : (e : Export) (old new : ArrayWriter × MirrorView) (xs : List Exchange) → new.1.array.halted ≡ false → AnswersInTurn writer_store e old xs new → old.1.array.halted ≡ false
ran e old new xs running h = by old.1.array.halted refl
  where
    by : (b : Bool) → old.1.array.halted ≡ b → old.1.array.halted ≡ false
    by true halted = sym (ap (λ (m : MirrorView). m.array.halted) (session_halted e old new xs halted h)) ∙ running
    by false is = is

pub session_goes : (e : Export) (old new : ArrayWriter × MirrorView) (xs : List Exchange) → new.1.array.halted ≡ false → AnswersInTurn writer_store e old xs new → GoesByEvents old.1 new.1
session_goes e old new [] running h = goes_nowhere old.1 new.1 (ap (λ (p : ArrayWriter × MirrorView). p.1) h)
session_goes e old new (x ∷ xs) running h =
    goes_then old.1 h.0.1 new.1
    (task_goes (task_of e x.request) x.request.cookie x.payload old h.0 x.reply (ran e h.0 new xs running h.2) h.1.does)
    (session_goes e h.0 new xs running h.2)
