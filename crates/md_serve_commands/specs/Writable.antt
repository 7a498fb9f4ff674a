-- An array is served to a client of the NBD protocol, which reads it and writes to it.
use Rattle.std.specs.Prelude.{◌≡◌, ◌⊎◌, ◌*◌, true, false, [], Result, Ok, Err, MatchResult}
use Rattle.md_faults.specs.declared.step_fault.BeginFault.{BeginFault}
use Rattle.md_state.specs.Members.{is_degraded}
use Rattle.md_state.specs.Trying.{Refuses, RefusesHalted}
use Rattle.md_state.specs.View.{ArrayView, MirrorView}
use Rattle.md_metadata.specs.declared.stop_fault.StopFault.{StopFault}
use Rattle.md_metadata.specs.Stopping.{RefusesStop, StopsMirror}
use Rattle.md_read.specs.declared.fault.UnreadFault.{UnreadFault}
use Rattle.md_read.specs.declared.fault.UnreadFault.TheVariants.{Halted, NotResynced}
use Rattle.md_streams.specs.declared.sink.Sink.{Ghosts as Sinks}
use Rattle.md_refusals.specs.declared.fault.CommandFault.{CommandFault}
use Rattle.md_refusals.specs.declared.fault.CommandFault.TheVariants.{InputFault, NoPieceMemory, OutputFault, Read, Resync, Stop, Write}
use Rattle.md_streams.specs.declared.source.Source.{Ghosts as Sources}
use Rattle.md_streams.specs.Putting.{PutsOut}
use Rattle.md_commands.specs.Resyncing.{RefusesNeededResync, ResyncsIfNeeded, needs_resync}
use Rattle.md_nbd.specs.declared.export.Export.{Export}
use Rattle.md_nbd.specs.declared.server.session.SessionEnd.{SessionEnd}
use Rattle.md_nbd.specs.declared.server.session_fault.SessionFault.{SessionFault}
use Rattle.md_nbd.specs.declared.server.session_fault.SessionFault.TheVariants as session
use Rattle.md_nbd.specs.Export.{sector_bytes}
use Rattle.md_nbd.specs.Server.Sessions.{BreaksSession, EndsSession, is_orderly}
use Rattle.md_serve_commands.specs.declared.writer.ArrayWriter.{ArrayWriter}
use Rattle.md_serve_commands.specs.Waiting.{IsFreshWriter, RefusesWaiting, WaitsWithin, WritesWaiting, writer_store}

-- what clients are told of it: all of it
abbrev pub writable_export : ArrayView → Export
writable_export a = record { size = sector_bytes * a.chunks.size; readonly = false }

-- ---- a session
module _ {I S : Type 0} (i : Sources I) (o : Sinks S) (first last : ArrayWriter) (old new : MirrorView)
    (from to : I) (was now : S) where
  abbrev EndsSo : S → SessionEnd → Type 0
  EndsSo told end =
      EndsSession writer_store i o (writable_export old.array) (first, old) (last, new) from to was told end

  abbrev BreaksSo : SessionFault → Type 0
  BreaksSo fault =
      BreaksSession writer_store i o (writable_export old.array) (first, old) (last, new) from to was now
      fault

  -- The client went between two of its messages, and the output holds nothing back.
  pub record ServesClient : Type 0 where
    pub end : SessionEnd
    pub orderly : is_orderly end ≡ true
    pub told : S
    pub session : EndsSo told end
    pub flushed : PutsOut o told now []

  -- It went so, and the output failed then.
  pub record FailsToFlushOut : Type 0 where
    pub end : SessionEnd
    pub orderly : is_orderly end ≡ true
    pub told : S
    pub session : EndsSo told end
    pub failed : o.failed now ≡ true

  -- It did not go so.
  pub record EndsOtherwise : Type 0 where
    pub end : SessionEnd
    pub otherwise : is_orderly end ≡ false
    pub session : EndsSo now end

  abbrev pub StopsServing : CommandFault → Type 0
  StopsServing InputFault = EndsOtherwise ⊎ BreaksSo session.Source
  StopsServing OutputFault = BreaksSo session.Sink ⊎ FailsToFlushOut
  StopsServing NoPieceMemory = BreaksSo session.NoMemory
  StopsServing fault = ⊥

  abbrev pub HasServed : Result (Unit {0}) CommandFault → Type 0
  HasServed result = MatchResult result (λ _. ServesClient) StopsServing

-- ---- the command
-- The mirror runs, and its sectors can be read, perhaps after a resync.
pub record MayBeWritten (a : ArrayView) : Type 0 where
  pub running : a.halted ≡ false
  pub ready : (a.resynced ≡ true) ⊎ (needs_resync a ≡ true)

-- Members in sync may differ, and the array is not degraded: it is not resynced before it is served.
pub record MustResyncFirst (a : ArrayView) : Type 0 where
  pub running : a.halted ≡ false
  pub not_yet : a.resynced ≡ false
  pub complete : is_degraded a ≡ false

abbrev pub RefusesToServe : MirrorView → MirrorView → UnreadFault → Type 0
RefusesToServe old new Halted = RefusesHalted old new
RefusesToServe old new NotResynced = Refuses old new (MustResyncFirst old.array)
RefusesToServe old new fault = ⊥

-- The array is resynced where it has to be.
pub record IsReadyToServe (old ready : MirrorView) : Type 0 where
  pub may : MayBeWritten old.array
  pub readied : ResyncsIfNeeded old ready
  pub resynced : ready.array.resynced ≡ true

-- The array may not be served, or there is no memory for its sectors, or it can't be resynced.
abbrev pub RefusesToMakeReady : MirrorView → MirrorView → CommandFault → Type 0
RefusesToMakeReady old new (Read fault) = RefusesToServe old new fault
RefusesToMakeReady old new NoPieceMemory = MayBeWritten old.array × (new ≡ old)
RefusesToMakeReady old new (Resync fault) = MayBeWritten old.array × RefusesNeededResync old new fault
RefusesToMakeReady old new fault = ⊥

-- The array is stopped, and then this is answered; or it is not, and that is answered.
abbrev pub StopsThen : Result (Unit {0}) CommandFault → MirrorView → MirrorView
    → Result (Unit {0}) CommandFault → Type 0
StopsThen told served new result =
    (StopsMirror served new × (result ≡ told))
    ⊎ ((fault : StopFault) × RefusesStop served new fault × (result ≡ Err (Stop fault)))

-- What a client is answered of, unless what waited then was not written.
abbrev pub told_after : Result (Unit {0}) BeginFault → Result (Unit {0}) CommandFault
    → Result (Unit {0}) CommandFault
told_after (Ok x) told = told
told_after (Err fault) told = Err (Write fault)

-- What waited at the end was written, or it was not, and then the array was stopped, or it was not.
pub record EndsServing (last : ArrayWriter) (served new : MirrorView)
    (told result : Result (Unit {0}) CommandFault) : Type 0 where
  pub written : MirrorView
  pub kept : Result (Unit {0}) BeginFault
  pub late : MatchResult kept (λ _. WritesWaiting last served written) (RefusesWaiting last served written)
  pub stops : StopsThen (told_after kept told) written new result

module _ {I S : Type 0} (i : Sources I) (o : Sinks S) (old new : MirrorView) (from to : I) (was now : S) where
  -- A client was served, then what waited was written, and then the array was stopped, however the session ended.
  pub record ServesAndStops (result : Result (Unit {0}) CommandFault) : Type 0 where
    pub ready : MirrorView
    pub readied : IsReadyToServe old ready
    pub first : ArrayWriter
    pub fresh : IsFreshWriter ready.array.chunks.size first
    pub last : ArrayWriter
    pub served : MirrorView
    pub told : Result (Unit {0}) CommandFault
    pub session : HasServed i o first last ready served from to was now told
    pub within : WaitsWithin last
    pub ends : EndsServing last served new told result

  -- Nobody was greeted.
  pub record IsUnserved (fault : CommandFault) : Type 0 where
    pub refused : RefusesToMakeReady old new fault
    pub input : to ≡ from
    pub output : now ≡ was

  abbrev pub ServesWritable : Result (Unit {0}) CommandFault → Type 0
  ServesWritable result = ServesAndStops result ⊎ MatchResult result (λ _. ⊥) IsUnserved
