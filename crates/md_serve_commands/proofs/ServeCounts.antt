-- No request wins or loses a device, and so no session does.
use Rattle.std.proofs.Common.{◌≡◌, ◌∙◌, inl, inr, ⊎_elim, ℕ, List, [], ◌∷◌, None, Result, Ok, Err, refl}
use Rattle.std.specs.Prelude.{MatchResult}
use Rattle.md_bitmap.specs.declared.chunks.Chunks.{Chunks}
use Rattle.md_model.specs.Events.{Event}
use Rattle.md_inflight.specs.Requests.Pending.{PendingView}
use Rattle.md_faults.specs.declared.step_fault.BeginFault.{BeginFault}
use Rattle.md_faults.specs.declared.step_fault.BeginFault.TheVariants as begin
use Rattle.md_state.specs.Requests.{among, request_of}
use Rattle.md_state.specs.View.{MirrorView}
use Rattle.md_array.specs.InTurn.{AllOf}
use Rattle.md_array.proofs.StepLemmas.Turns.{all_on, all_such}
use Rattle.md_metadata.specs.declared.stop_fault.StopFault.{StopFault}
use Rattle.md_metadata.specs.declared.stop_fault.StopFault.TheVariants as stop
use Rattle.md_metadata.specs.Stopping.{RefusesStop}
use Rattle.md_read.specs.declared.fault.UnreadFault.{UnreadFault}
use Rattle.md_read.specs.declared.fault.UnreadFault.TheVariants as unread
use Rattle.md_read.specs.Reading.{RefusesRead}
use Rattle.md_write.specs.Progress.{IsOfRequest}
use Rattle.md_write.specs.Writing.{RefusesWrite, Writes, events_of_write}
use Rattle.md_streams.specs.declared.sink.Sink.{Ghosts as Sinks}
use Rattle.md_refusals.specs.declared.fault.CommandFault.{CommandFault}
use Rattle.md_refusals.specs.declared.fault.CommandFault.TheVariants.{InputFault, NoPieceMemory, OutputFault, Read, Resync}
use Rattle.md_streams.specs.declared.source.Source.{Ghosts as Sources}
use Rattle.md_commands.proofs.DeviceCounts.{AsMany, KeepsMembers, fails_after, halts, led, none_in_flight, not_readied, nothing, readied, refused, same, stopped}
use Rattle.md_nbd.specs.declared.server.session.SessionEnd.{SessionEnd}
use Rattle.md_nbd.specs.declared.server.session_fault.SessionFault.{SessionFault}
use Rattle.md_nbd.specs.Server.Sessions.{BreaksSession, EndsSession}
use Rattle.md_serve_commands.specs.declared.writer.ArrayWriter.{ArrayWriter}
use Rattle.md_serve_commands.specs.Waiting.{ClearsMarks, RefusesWaiting, RunsOn, WritesWaiting, writer_store}
use Rattle.md_serve_commands.specs.Writable.{HasServed, IsUnserved, RefusesToMakeReady, RefusesToServe, ServesAndStops, ServesWritable, StopsThen, told_after, writable_export}
use Rattle.md_serve_commands.proofs.Exchanged.{EachKeeps, broken_keeps, session_keeps, waiting_keeps, refused_keeps}

-- ---- a write
-- an event by which no member leaves, comes in, or comes into sync
abbrev IsKeeping : Event → Type 0
IsKeeping (Event.Remove k) = ⊥
IsKeeping (Event.Add d left) = ⊥
IsKeeping (Event.ReAdd own offset device left) = ⊥
IsKeeping (Event.Enrol k role listed) = ⊥
IsKeeping e = Unit {0}

keeping : KeepsMembers IsKeeping
keeping = record { removes = λ k of. of; adds = λ d left of. of; re_adds = λ own offset device left of. of; enrols = λ k role listed of. of }

of_request : (chunks : Chunks) (p : PendingView) (e : Event) → IsOfRequest chunks p e → IsKeeping e
of_request chunks p (Event.Remove k) of = of
of_request chunks p (Event.Add d left) of = of
of_request chunks p (Event.ReAdd own offset device left) of = of
of_request chunks p (Event.Enrol k role listed) of = of
of_request chunks p e of = tt

all_keeping : (chunks : Chunks) (p : PendingView) (es : List Event) → AllOf (IsOfRequest chunks p) es → AllOf IsKeeping es
all_keeping chunks p = all_such (IsOfRequest chunks p) IsKeeping (of_request chunks p)

wrote : (sector : ℕ) (bytes : List ℕ) (old new : MirrorView) → Writes sector bytes old new → AsMany old new
wrote sector bytes old new w =
    led IsKeeping keeping (events_of_write w.request w.events) None old new nothing nothing
    (tt, all_on IsKeeping w.events (Event.Finish w.request.ticket.number ∷ []) (all_keeping old.array.chunks w.request w.events w.steps) (tt, tt))
    (w.happens None nothing (none_in_flight old.array)).done

not_written : (fault : BeginFault) (sector : ℕ) (bytes : List ℕ) (old new : MirrorView) → RefusesWrite sector bytes old new fault → AsMany old new
not_written begin.Halted sector bytes old new h =
    ⊎_elim (λ r. refused old new _ r)
    (λ r.
    halts r.failing r.mid new (among r.last nothing) (r.halts nothing)
    ∙ led IsKeeping keeping (Event.Begin r.request.ticket.number (request_of r.request) ∷ r.events) None old r.mid
    nothing (among r.last nothing) (tt, all_keeping old.array.chunks r.request r.events r.steps) (r.happens None nothing (none_in_flight old.array)))
    h
not_written begin.OutOfRange sector bytes old new h = refused old new _ h
not_written (begin.Overlaps n) sector bytes old new h = refused old new _ h
not_written begin.NotResynced sector bytes old new h = refused old new _ h
not_written begin.EventsFull sector bytes old new h = refused old new _ h
not_written begin.NumbersSpent sector bytes old new h = refused old new _ h
not_written begin.NoMemory sector bytes old new h = refused old new _ h

-- ---- a read
not_given : (fault : UnreadFault) (sector : ℕ) (bytes : List ℕ) (old new : MirrorView) → RefusesRead sector bytes old new fault → AsMany old new
not_given unread.Halted sector bytes old new h = refused old new _ h
not_given unread.OutOfRange sector bytes old new h = refused old new _ h
not_given unread.NotResynced sector bytes old new h = refused old new _ h
not_given (unread.Unreadable s) sector bytes old new h = h.1.rests.disks.same.as_many

-- ---- a stop
not_stopped : (fault : StopFault) (old new : MirrorView) → RefusesStop old new fault → AsMany old new
not_stopped fault old new h =
    fails_after (λ (v : MirrorView). v ≡ old) old new fault (λ mid is. same old mid is) (record { mid = old; through = refl; refused = h })

runs_on : (fault : StopFault) (old new : MirrorView) → RunsOn old new fault → AsMany old new
runs_on stop.Halted old new h = absurd h
runs_on (stop.InFlight n) old new h = not_stopped (stop.InFlight n) old new h
runs_on stop.EventsFull old new h = not_stopped stop.EventsFull old new h
runs_on (stop.MemberFailed k) old new h = not_stopped (stop.MemberFailed k) old new h

cleared : (old new : MirrorView) → ClearsMarks old new → AsMany old new
cleared old new h = ⊎_elim (λ s. stopped old new s) (λ r. runs_on r.0 old new r.1) h.stops

each_as_many : EachKeeps AsMany
each_as_many = record {
  same = λ v. refl;
  on = λ a b c ab bc. bc ∙ ab;
  given = λ sector bytes old new h. h.0.rests.disks.same.as_many;
  ungiven = λ sector sectors old new h. not_given h.fault sector h.bytes old new h.refused;
  written = λ sector bytes old new h. wrote sector bytes old new h.0;
  unwritten = λ sector bytes old new h. not_written h.fault sector bytes old new h.refused;
  cleared = cleared;
  uncleared = λ old new h. ⊎_elim (λ r. refused old new _ r) (λ r. not_stopped stop.Halted old new r.1) h.0;
}

-- ---- the command
module _ {I S : Type 0} (i : Sources I) (o : Sinks S) (first last : ArrayWriter) (old new : MirrorView) (from to : I) (was now : S) where
  ended : (told : S) (end : SessionEnd) → EndsSession writer_store i o (writable_export old.array) (first, old) (last, new) from to was told end → AsMany old new
  ended told end h = session_keeps AsMany each_as_many i o (writable_export old.array) (first, old) (last, new) from to was told end h

  broken : (fault : SessionFault) → BreaksSession writer_store i o (writable_export old.array) (first, old) (last, new) from to was now fault → AsMany old new
  broken fault h = broken_keeps AsMany each_as_many i o (writable_export old.array) (first, old) (last, new) from to was now fault h

  client_served : (result : Result (Unit {0}) CommandFault) → HasServed i o first last old new from to was now result → AsMany old new
  client_served (Ok x) h = ended h.told h.end h.session
  client_served (Err InputFault) (inl h) = ended now h.end h.session
  client_served (Err InputFault) (inr h) = broken _ h
  client_served (Err OutputFault) (inl h) = broken _ h
  client_served (Err OutputFault) (inr h) = ended h.told h.end h.session
  client_served (Err NoPieceMemory) h = broken _ h
  client_served (Err fault) h = absurd h

waiting_or_not : (w : ArrayWriter) (old new : MirrorView) (kept : Result (Unit {0}) BeginFault) → MatchResult kept (λ _. WritesWaiting w old new) (RefusesWaiting w old new) → AsMany old new
waiting_or_not w old new (Ok x) h = waiting_keeps AsMany each_as_many w old new h
waiting_or_not w old new (Err fault) h = refused_keeps AsMany each_as_many w old new fault h

stopped_then : (told : Result (Unit {0}) CommandFault) (old new : MirrorView) (result : Result (Unit {0}) CommandFault) → StopsThen told old new result → AsMany old new
stopped_then told old new result h = ⊎_elim (λ s. stopped old new s.0) (λ r. not_stopped r.0 old new r.1) h

module _ {I S : Type 0} (i : Sources I) (o : Sinks S) (old new : MirrorView) (from to : I) (was now : S) where
  and_stopped : (result : Result (Unit {0}) CommandFault) → ServesAndStops i o old new from to was now result → AsMany old new
  and_stopped result h =
      stopped_then (told_after h.ends.kept h.told) h.ends.written new result h.ends.stops
      ∙ waiting_or_not h.last h.served h.ends.written h.ends.kept h.ends.late
      ∙ client_served i o h.first h.last h.ready h.served from to was now h.told h.session
      ∙ readied old h.ready h.readied.readied

  unserved : (fault : CommandFault) → IsUnserved i o old new from to was now fault → AsMany old new
  unserved fault h = by fault h.refused
    where
      not_served : (f : UnreadFault) → RefusesToServe old new f → AsMany old new
      not_served unread.Halted r = refused old new _ r
      not_served unread.NotResynced r = refused old new _ r
      not_served f r = absurd r

      by : (f : CommandFault) → RefusesToMakeReady old new f → AsMany old new
      by (Read f) r = not_served f r
      by NoPieceMemory r = same old new r.1
      by (Resync f) r = not_readied f old new r.1
      by f r = absurd r

  pub serves_as_many : (result : Result (Unit {0}) CommandFault) → ServesWritable i o old new from to was now result → AsMany old new
  serves_as_many result (inl h) = and_stopped result h
  serves_as_many (Ok x) (inr h) = absurd h
  serves_as_many (Err fault) (inr h) = unserved fault h
