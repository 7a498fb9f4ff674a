-- Sessions from their opening to their end: how much of what the client was told the array holds then, and after that.
use Rattle.std.specs.Prelude.{◌≡◌, ◌⊎◌, ℕ, ◌<◌, true, false, List, [], ◌++◌, Result, Ok, Err}
use Rattle.std.proofs.Common.{inl, inr}
use Rattle.md_model.specs.Content.{Content, HoldsAtRest, IsGiven}
use Rattle.md_model.specs.Events.{Event}
use Rattle.md_faults.specs.declared.step_fault.BeginFault.{BeginFault}
use Rattle.md_state.specs.Members.{clean_offset}
use Rattle.md_state.specs.View.{Disk, MirrorView, geometry_of}
use Rattle.md_array.specs.Worlds.{world_of}
use Rattle.md_laws.specs.Left.{contents_of}
use Rattle.md_laws.specs.Runs.{Moment}
use Rattle.md_metadata.specs.Storing.{AllRecorded}
use Rattle.md_metadata.specs.declared.stop_fault.StopFault.TheVariants.{Halted}
use Rattle.md_streams.specs.declared.sink.Sink.{Ghosts as Sinks}
use Rattle.md_refusals.specs.declared.fault.CommandFault.{CommandFault}
use Rattle.md_refusals.specs.declared.fault.CommandFault.TheVariants.{Stop, Write}
use Rattle.md_streams.specs.declared.source.Source.{Ghosts as Sources}
use Rattle.md_commands.specs.Resyncing.{needs_resync}
use Rattle.md_nbd.specs.declared.export.Export.{Export}
use Rattle.md_nbd.specs.Server.Exchanges.{AnswersInTurn, Exchange}
use Rattle.md_serve_commands.specs.declared.writer.ArrayWriter.{ArrayWriter}
use Rattle.md_serve_commands.specs.Waiting.{writer_store}
use Rattle.md_serve_commands.specs.Writable.{ServesAndStops, writable_export}
use Rattle.md_serve_commands.specs.Calls.{AreNone, AtOpenedMoments, GoesAlong}
use Rattle.md_serve_commands.specs.Serving.{all_events}
use Rattle.md_serve_commands.specs.Sessions.{AllLeaveSector, AllServedWhole, AnswersAllAs, EndsStanding, HasExchanged, IsCoveredBetween, IsUnasked, ServedLeftWhole, SomeEnd, StandsAtCrash, late_of, session_events, stop_of, untold, with_waiting}

-- ---- the end
abbrev pub end_serving_events : (last : ArrayWriter × MirrorView) → SomeEnd last → List Event
end_serving_events last end =
    all_events last.1 end.ends.written (late_of last end)
    ++ all_events end.ends.written end.new (stop_of last end)

-- What waited at the end was written, and the content is all that was told of; or it was not, and it is that without what waited.
abbrev pub KeepsTold : ArrayWriter → Result (Unit {0}) BeginFault → Content → Content → Type 0
KeepsTold last (Ok done) told b = b ≡ told
KeepsTold last (Err fault) told b = told ≡ with_waiting last b

-- The command does not say that the array was not stopped.
abbrev pub SaysStopped : Result (Unit {0}) CommandFault → Type 0
SaysStopped (Err (Stop fault)) = ⊥
SaysStopped result = Unit {0}

-- The command says whether what waited at the end was written, unless the array was not stopped.
abbrev pub SaysKept : Result (Unit {0}) CommandFault → Result (Unit {0}) BeginFault → Type 0
SaysKept (Err (Write fault)) kept = kept ≡ Err fault
SaysKept (Err (Stop fault)) kept = Unit {0}
SaysKept result (Ok done) = Unit {0}
SaysKept result (Err fault) = ⊥

-- A stopped array is clean, where it is resynced, and each member that is kept up to date has a superblock that is not due.
pub record IsStopped (v : MirrorView) : Type 0 where
  pub clean : v.array.resynced ≡ true → v.array.shared.resync_offset ≡ clean_offset
  pub recorded : AllRecorded v.array

abbrev pub AnySector : ℕ → Type 0
AnySector s = Unit {0}

abbrev pub NoEvent : List Event → Type 0
NoEvent events = events ≡ []

-- ---- from the opening on
module _ (final : MirrorView) (t : Moment) (a : Content) (e : Export) (first : ArrayWriter)
    (xs : List Exchange) (last : ArrayWriter × MirrorView)
    (answers : AnswersInTurn writer_store e (first, t.mirror) xs last)
    (end : SomeEnd last) where
  -- By the events of the requests and of the end, and no others, the life goes on to after the end. Each member in sync holds a content
  -- there, which is what the client was told of, but for what waited where that was not written. In each sector that no request was to
  -- write since a flush that was answered without an error, it is what was told of up to that flush. It stands: what is left then gives it
  -- at the next opening and after a resync, in each sector that is not listed.
  pub record StandsAtEnd (told : Content) : Type 0 where
    pub content : Content
    pub kept : KeepsTold last.0 end.ends.kept told content
    pub flushed : (ys zs : List Exchange) → xs ≡ ys ++ zs → EndsStanding e ys → (b : Content)
        → AnswersAllAs e a ys b → (s : ℕ) → AllLeaveSector e zs s → content s ≡ b s
    pub goes : GoesAlong
        (session_events e (first, t.mirror) xs last answers ++ end_serving_events last end) t a end.new
        content
    pub held : HoldsAtRest (geometry_of end.new.array) content (world_of end.new t.requests)
    pub covered : IsCoveredBetween end.new t.requests
    pub resynced : t.mirror.array.resynced ≡ true → end.new.array.resynced ≡ true
    pub stopped : SaysStopped end.result → IsStopped end.new
    pub stands : t.mirror.array.resynced ≡ true → (left : List Disk)
        → contents_of left ≡ contents_of end.new.disks
        → StandsAtCrash final NoEvent (record goes.past { mirror = end.new; requests = t.requests }) content
        left AnySector

  -- What the client was told of is what an array with this content would tell from the opening on. The mirror runs at the end, and holds
  -- it; or it is halted, and the command says so.
  pub record TellsToTheEnd : Type 0 where
    pub told : Content
    pub answered : AnswersAllAs e a xs told
    pub running : end.new.array.halted ≡ false → StandsAtEnd told
    pub halted : end.new.array.halted ≡ true → end.result ≡ Err (Stop Halted)

-- The list of all requests of a session, at whose opening nothing waits, and how it ended.
abbrev pub SessionsEndAsTold : Type 0
SessionsEndAsTold =
    AtOpenedMoments (λ final t a.
    ((none : AreNone t.requests) (e : Export) (first : ArrayWriter) → first.run.items ≡ []
    → (xs : List Exchange) (last : ArrayWriter × MirrorView)
    (answers : AnswersInTurn writer_store e (first, t.mirror) xs last) (end : SomeEnd last)
    → AllServedWhole t.requests none e (first, t.mirror) xs last answers
    → ServedLeftWhole t.requests none last.1 end.ends.written (late_of last end)
    → ServedLeftWhole t.requests none end.ends.written end.new (stop_of last end)
    → TellsToTheEnd final t a e first xs last answers end))

-- ---- the command
-- The life goes on to the array that is served, resynced if it had to be, and no request is in flight there. The content stays, where
-- each member in sync gave it before that did not list the sector; and all of it, where no resync was needed.
pub record ReadiesContent (t : Moment) (a : Content) (ready : MirrorView) (b : Content) : Type 0 where
  pub events : List Event
  pub goes : GoesAlong events t a ready b
  pub given : (s : ℕ) → s < t.mirror.array.chunks.size → IsGiven (world_of t.mirror t.requests) a s
      → b s ≡ a s
  pub untouched : needs_resync t.mirror.array ≡ false → (events ≡ []) × (b ≡ a)

module _ {I S : Type 0} (i : Sources I) (o : Sinks S) (t : Moment) (new : MirrorView) (from to : I)
    (was now : S) (result : Result (Unit {0}) CommandFault)
    (serves : ServesAndStops i o t.mirror new from to was now result) where
  abbrev pub export_served : Export
  export_served = writable_export serves.ready.array

  abbrev pub last_served : ArrayWriter × MirrorView
  last_served = (serves.last, serves.served)

  abbrev pub end_served : SomeEnd last_served
  end_served = record { told = serves.told; result = result; new = new; ends = serves.ends }

  -- The source gave requests, or nothing was asked (`session_exchanges`).
  abbrev pub HasCome : Type 0
  HasCome =
      HasExchanged i o serves.first serves.last serves.ready serves.served from to was now
      ⊎ IsUnasked i o serves.first serves.last serves.ready serves.served from to was now

  -- all that were done
  abbrev pub requests_of : HasCome → List Exchange
  requests_of (inl h) =
      h.told
      ++ untold i o serves.first serves.last serves.ready serves.served from to was now h.mid h.at h.before
      h.ends
  requests_of (inr h) = []

  abbrev pub answers_of : (come : HasCome)
      → AnswersInTurn writer_store export_served (serves.first, serves.ready) (requests_of come) last_served
  answers_of (inl h) = h.all
  answers_of (inr h) = h.unchanged

  -- The array was made ready, requests came, and then the end.
  pub record IsWholeSession (final : MirrorView) (a : Content) (none : AreNone t.requests) : Type 0 where
    pub begun : Content
    pub readied : ReadiesContent t a serves.ready begun
    pub come : HasCome
    pub said : SaysKept result serves.ends.kept
    pub tells : AllServedWhole t.requests none export_served (serves.first, serves.ready) (requests_of come)
        last_served (answers_of come)
        → ServedLeftWhole t.requests none serves.served serves.ends.written (late_of last_served end_served)
        → ServedLeftWhole t.requests none serves.ends.written new (stop_of last_served end_served)
        → TellsToTheEnd final (record readied.goes.past { mirror = serves.ready; requests = t.requests })
        begun export_served serves.first (requests_of come) last_served (answers_of come) end_served

-- Each client that `serve_writable` serves at any moment of a life, whatever source and sink there are.
module _ {I S : Type 0} (i : Sources I) (o : Sinks S) where
  abbrev pub SessionsAreWhole : Type 0
  SessionsAreWhole =
      AtOpenedMoments (λ final t a.
      ((none : AreNone t.requests) (new : MirrorView) (from to : I) (was now : S)
      (result : Result (Unit {0}) CommandFault)
      (serves : ServesAndStops i o t.mirror new from to was now result)
      → IsWholeSession i o t new from to was now result serves final a none))
