-- By which calls a client's request is done, as its answer tells: what waits is written, where it has to be, and then what is asked is done.
use Rattle.std.specs.Prelude.{◌≡◌, ◌⊎◌, ℕ, Bool, true, false, List, [], ◌∷◌, ◌++◌, Result, Ok, Err, MatchResult}
use Rattle.std.proofs.Common.{inl, inr, refl}
use Rattle.md_model.specs.Events.{Event}
use Rattle.md_faults.specs.declared.step_fault.BeginFault.{BeginFault}
use Rattle.md_faults.specs.declared.step_fault.BeginFault.TheVariants as begin
use Rattle.md_state.specs.View.{MirrorView}
use Rattle.md_metadata.specs.declared.stop_fault.StopFault.{StopFault}
use Rattle.md_metadata.specs.declared.stop_fault.StopFault.TheVariants as stop
use Rattle.md_metadata.specs.Stopping.{RefusesStop, StopsMirror}
use Rattle.md_read.specs.declared.fault.UnreadFault.{UnreadFault}
use Rattle.md_read.specs.declared.fault.UnreadFault.TheVariants as unread
use Rattle.md_read.specs.Reading.{RefusesRead}
use Rattle.md_write.specs.Writing.{RefusesWrite}
use Rattle.md_refusals.specs.declared.fault.CommandFault.{CommandFault}
use Rattle.md_nbd.specs.declared.export.Export.{Export}
use Rattle.md_nbd.specs.declared.task.Task.{Task}
use Rattle.md_nbd.specs.declared.task.Task.TheVariants.{Disconnect, Flush, Read, Refuse, Write}
use Rattle.md_nbd.specs.NbdTasks.{task_of}
use Rattle.md_nbd.specs.Server.Exchanges.{AnswersRequest, DoesTask, Exchange}
use Rattle.md_serve_commands.specs.declared.writer.ArrayWriter.{ArrayWriter}
use Rattle.md_serve_commands.specs.Waiting.{ClearsMarks, FailsToClear, FailsToFlush, FailsToRead, FailsToTake, FailsWaiting, FlushesAll, ReadsBehind, RefusesWaiting, RunsOn, TakesWrite, WritesThrough, WritesWaiting, writer_store}
use Rattle.md_serve_commands.specs.Writable.{EndsServing, StopsThen, told_after}
use Rattle.md_serve_commands.specs.Calls.{DoesCall, DoesCalls, HaltsInCall, SessionCall, calls_events, halting_events}

-- At the end nothing more was done, or a call halted the mirror.
abbrev pub EndsCalls : MirrorView → MirrorView → Type 0
EndsCalls mid new = (new ≡ mid) ⊎ HaltsInCall mid new

-- For a request what waits is written, where it has to be, and then what is asked is done. At the end a call may halt the mirror.
pub record IsDoneByCalls (old new : MirrorView) : Type 0 where
  pub first : List SessionCall
  pub between : MirrorView
  pub waited : DoesCalls old first between
  pub asked : List SessionCall
  pub mid : MirrorView
  pub done : DoesCalls between asked mid
  pub ends : EndsCalls mid new

-- ---- its events
-- The events of its calls, one after another.
abbrev pub done_events : (old new : MirrorView) → IsDoneByCalls old new → List Event
done_events old new by =
    calls_events by.first old by.between by.waited ++ calls_events by.asked by.between by.mid by.done

-- The events of a call that halted the mirror, before the write that failed then.
abbrev pub end_events : (mid new : MirrorView) → EndsCalls mid new → List Event
end_events mid new (inl same) = []
end_events mid new (inr h) = halting_events mid new h

abbrev pub all_events : (old new : MirrorView) → IsDoneByCalls old new → List Event
all_events old new by = done_events old new by ++ end_events by.mid new by.ends

-- ---- calls that were made, from the one mirror to the other
pub record MakesCalls (old new : MirrorView) : Type 0 where
  pub calls : List SessionCall
  pub done : DoesCalls old calls new

abbrev pub no_call : (old new : MirrorView) → new ≡ old → MakesCalls old new
no_call old new same = record { calls = []; done = same }

abbrev pub one_call : (c : SessionCall) (old new : MirrorView) → DoesCall c old new → MakesCalls old new
one_call c old new d = record { calls = c ∷ []; done = (new, d, refl) }

-- What waited was written, or nothing waited.
abbrev pub waiting_call : (w : ArrayWriter) (old new : MirrorView) → WritesWaiting w old new
    → MakesCalls old new
waiting_call w old new (inl h) = no_call old new h.1
waiting_call w old new (inr h) = one_call (SessionCall.Writing (w.start, w.run.items)) old new h.0

-- Sectors were not given, for some fault.
abbrev pub ungiven_call : (fault : UnreadFault) (sector : ℕ) (bytes : List ℕ) (old new : MirrorView)
    → RefusesRead sector bytes old new fault → MakesCalls old new
ungiven_call unread.Halted sector bytes old new h = no_call old new h.unchanged
ungiven_call unread.OutOfRange sector bytes old new h = no_call old new h.unchanged
ungiven_call unread.NotResynced sector bytes old new h = no_call old new h.unchanged
ungiven_call (unread.Unreadable s) sector bytes old new h = one_call SessionCall.Reading old new h.1.rests

-- The array was not stopped, for some fault by which the mirror is not halted.
abbrev pub running_call : (fault : StopFault) (old new : MirrorView) → RunsOn old new fault
    → MakesCalls old new
running_call stop.Halted old new h = absurd h
running_call (stop.InFlight n) old new h = no_call old new h.unchanged
running_call stop.EventsFull old new h = no_call old new h.unchanged
running_call (stop.MemberFailed k) old new h = one_call SessionCall.Clearing old new h.goes

abbrev pub clearing_call : (old new : MirrorView)
    → StopsMirror old new ⊎ ((fault : StopFault) × RunsOn old new fault) → MakesCalls old new
clearing_call old new (inl h) = one_call SessionCall.Clearing old new h.goes
clearing_call old new (inr h) = running_call h.0 old new h.1

-- The marks were cleared, or kept for another flush.
abbrev pub flushing_call : (old new : MirrorView) → (new ≡ old) ⊎ ClearsMarks old new → MakesCalls old new
flushing_call old new (inl same) = no_call old new same
flushing_call old new (inr h) = clearing_call old new h.stops

-- ---- calls that were refused, or halted the mirror
abbrev pub unwritten_end : (fault : BeginFault) (sector : ℕ) (bytes : List ℕ) (old new : MirrorView)
    → RefusesWrite sector bytes old new fault → EndsCalls old new
unwritten_end begin.Halted sector bytes old new (inl h) = inl h.unchanged
unwritten_end begin.Halted sector bytes old new (inr h) = inr (inl ((sector, bytes), h))
unwritten_end begin.OutOfRange sector bytes old new h = inl h.unchanged
unwritten_end (begin.Overlaps n) sector bytes old new h = inl h.unchanged
unwritten_end begin.NotResynced sector bytes old new h = inl h.unchanged
unwritten_end begin.EventsFull sector bytes old new h = inl h.unchanged
unwritten_end begin.NumbersSpent sector bytes old new h = inl h.unchanged
unwritten_end begin.NoMemory sector bytes old new h = inl h.unchanged

abbrev pub uncleared_end : (old new : MirrorView) → FailsToClear old new → EndsCalls old new
uncleared_end old new (inl h, pending) = inl h.unchanged
uncleared_end old new (inr (running, inl h), pending) = inl h.unchanged
uncleared_end old new (inr (running, inr h), pending) = inr (inr h)

-- ---- a request
-- Nothing was done, but for a call that may have halted the mirror.
abbrev pub done_at_once : (old new : MirrorView) → EndsCalls old new → IsDoneByCalls old new
done_at_once old new ends =
    record { first = []; between = old; waited = refl; asked = []; mid = old; done = refl; ends = ends }

abbrev pub done_then : (old new : MirrorView) → MakesCalls old new → IsDoneByCalls old new
done_then old new asked =
    record {
      first = [];
      between = old;
      waited = refl;
      asked = asked.calls;
      mid = new;
      done = asked.done;
      ends = inl refl;
    }

-- What waited was written, and then calls were made.
abbrev pub done_behind : (w : ArrayWriter) (old between mid new : MirrorView) → WritesWaiting w old between
    → MakesCalls between mid → EndsCalls mid new → IsDoneByCalls old new
done_behind w old between mid new waited asked ends =
    record {
      first = (waiting_call w old between waited).calls;
      between = between;
      waited = (waiting_call w old between waited).done;
      asked = asked.calls;
      mid = mid;
      done = asked.done;
      ends = ends;
    }

module _ (p q : ArrayWriter × MirrorView) where
  abbrev pub refused_by : FailsWaiting p q → IsDoneByCalls p.1 q.1
  refused_by h =
      done_at_once p.1 q.1 (unwritten_end h.fault p.0.start p.0.run.items p.1 q.1 h.refused.refused)

  abbrev pub read_by : (sector : ℕ) (bytes : List ℕ) → ReadsBehind p q sector bytes → IsDoneByCalls p.1 q.1
  read_by sector bytes h =
      done_behind p.0 p.1 h.mid q.1 q.1 h.waited (one_call SessionCall.Reading h.mid q.1 h.given.0.rests)
      (inl refl)

  abbrev pub unread_by : (sector sectors : ℕ) → FailsToRead p q sector sectors → IsDoneByCalls p.1 q.1
  unread_by sector sectors (inl h) = refused_by h
  unread_by sector sectors (inr h) =
      done_behind p.0 p.1 h.mid q.1 q.1 h.waited
      (ungiven_call h.refused.fault sector h.refused.bytes h.mid q.1 h.refused.refused) (inl refl)

  abbrev pub through_by : (sector : ℕ) (bytes : List ℕ) → WritesThrough p q sector bytes
      → IsDoneByCalls p.1 q.1
  through_by sector bytes h =
      done_behind p.0 p.1 h.mid q.1 q.1 h.waited
      (one_call (SessionCall.Writing (sector, bytes)) h.mid q.1 h.written.0) (inl refl)

  abbrev pub written_by : (sector : ℕ) (bytes : List ℕ) (through : Bool) → TakesWrite p q sector bytes through
      → IsDoneByCalls p.1 q.1
  written_by sector bytes true h = through_by sector bytes h
  written_by sector bytes false (inl h) = done_at_once p.1 q.1 (inl h.mirror)
  written_by sector bytes false (inr (inl h)) =
      done_behind p.0 p.1 q.1 q.1 q.1 h.waited (no_call q.1 q.1 refl) (inl refl)
  written_by sector bytes false (inr (inr h)) = through_by sector bytes h

  abbrev pub unwritten_by : (sector : ℕ) (bytes : List ℕ) → FailsToTake p q sector bytes
      → IsDoneByCalls p.1 q.1
  unwritten_by sector bytes (inl h) = done_at_once p.1 q.1 (inl h.mirror)
  unwritten_by sector bytes (inr (inl h)) = refused_by h
  unwritten_by sector bytes (inr (inr (inl h))) =
      done_behind p.0 p.1 q.1 q.1 q.1 h.waited (no_call q.1 q.1 refl) (inl refl)
  unwritten_by sector bytes (inr (inr (inr h))) =
      done_behind p.0 p.1 h.mid h.mid q.1 h.waited (no_call h.mid h.mid refl)
      (unwritten_end h.refused.fault sector bytes h.mid q.1 h.refused.refused)

  abbrev pub flushed_by : FlushesAll p q → IsDoneByCalls p.1 q.1
  flushed_by h = done_behind p.0 p.1 h.mid q.1 q.1 h.waited (flushing_call h.mid q.1 h.marks) (inl refl)

  abbrev pub unflushed_by : FailsToFlush p q → IsDoneByCalls p.1 q.1
  unflushed_by (inl h) = done_at_once p.1 q.1 (inl h.mirror)
  unflushed_by (inr (inl h)) = refused_by h
  unflushed_by (inr (inr h)) =
      done_behind p.0 p.1 h.mid h.mid q.1 h.waited (no_call h.mid h.mid refl)
      (uncleared_end h.mid q.1 h.refused)

  abbrev pub task_by : (t : Task) (cookie : ℕ) (payload reply : List ℕ)
      → DoesTask writer_store t cookie payload p q reply → IsDoneByCalls p.1 q.1
  task_by (Read sector sectors) cookie payload reply (inl h) = read_by sector h.bytes h.read
  task_by (Read sector sectors) cookie payload reply (inr h) = unread_by sector sectors h.0
  task_by (Write sector sectors through) cookie payload reply (inl h) = written_by sector payload through h.0
  task_by (Write sector sectors through) cookie payload reply (inr h) = unwritten_by sector payload h.0
  task_by Flush cookie payload reply (inl h) = flushed_by h.0
  task_by Flush cookie payload reply (inr h) = unflushed_by h.0
  task_by Disconnect cookie payload reply h = absurd h
  task_by (Refuse error) cookie payload reply h = done_at_once p.1 q.1 (inl (λ i. (h.0 i).1))

  -- By these calls the request was done.
  abbrev pub calls_of : (e : Export) (x : Exchange) → AnswersRequest writer_store e p q x
      → IsDoneByCalls p.1 q.1
  calls_of e x answers = task_by (task_of e x.request) x.request.cookie x.payload x.reply answers.does

-- ---- the end
-- What was done as the array was stopped, or was not.
abbrev pub refused_stop_by : (fault : StopFault) (old new : MirrorView) → RefusesStop old new fault
    → IsDoneByCalls old new
refused_stop_by stop.Halted old new (inl h) = done_at_once old new (inl h.unchanged)
refused_stop_by stop.Halted old new (inr h) = done_at_once old new (inr (inr h))
refused_stop_by (stop.InFlight n) old new h = done_at_once old new (inl h.unchanged)
refused_stop_by stop.EventsFull old new h = done_at_once old new (inl h.unchanged)
refused_stop_by (stop.MemberFailed k) old new h =
    done_then old new (one_call SessionCall.Clearing old new h.goes)

-- What waited was written, or not.
abbrev pub late_by : (last : ArrayWriter) (served : MirrorView) (kept : Result (Unit {0}) BeginFault)
    (written : MirrorView)
    → MatchResult kept (λ _. WritesWaiting last served written) (RefusesWaiting last served written)
    → IsDoneByCalls served written
late_by last served (Ok done) written h =
    done_behind last served written written written h (no_call written written refl) (inl refl)
late_by last served (Err fault) written h =
    done_at_once served written (unwritten_end fault last.start last.run.items served written h.refused)

abbrev pub stop_by : (new : MirrorView) (result told : Result (Unit {0}) CommandFault) (written : MirrorView)
    → StopsThen told written new result → IsDoneByCalls written new
stop_by new result told written (inl h) =
    done_then written new (one_call SessionCall.Clearing written new h.0.goes)
stop_by new result told written (inr h) = refused_stop_by h.0 written new h.1

module _ (last : ArrayWriter) (served new : MirrorView) (told result : Result (Unit {0}) CommandFault) where
  abbrev pub late_calls : (ends : EndsServing last served new told result) → IsDoneByCalls served ends.written
  late_calls ends = late_by last served ends.kept ends.written ends.late

  abbrev pub stop_calls : (ends : EndsServing last served new told result) → IsDoneByCalls ends.written new
  stop_calls ends = stop_by new result (told_after ends.kept told) ends.written ends.stops
