-- An array is served to a client of the NBD protocol, and only read.
use Rattle.std.specs.Prelude.{◌≡◌, ◌⊎◌, ℕ, ◌+◌, ◌*◌, ◌/◌, ◌<◌, ◌≤◌, Bool, true, false, List, [], length, Result, MatchResult}
use Rattle.md_array.specs.Consistency.{IsConsistent}
use Rattle.md_state.specs.Rests.{Rests}
use Rattle.md_state.specs.View.{ArrayView, MirrorView}
use Rattle.md_read.specs.declared.fault.UnreadFault.TheVariants.{Unreadable}
use Rattle.md_streams.specs.declared.sink.Sink.{Ghosts as Sinks}
use Rattle.md_refusals.specs.declared.fault.CommandFault.{CommandFault}
use Rattle.md_refusals.specs.declared.fault.CommandFault.TheVariants.{InputFault, NoPieceMemory, OutputFault, Read}
use Rattle.md_streams.specs.declared.source.Source.{Ghosts as Sources}
use Rattle.md_streams.specs.Putting.{PutsOut}
use Rattle.md_nbd.specs.declared.export.Export.{Export}
use Rattle.md_nbd.specs.declared.server.session.SessionEnd.{SessionEnd}
use Rattle.md_nbd.specs.declared.server.session_fault.SessionFault.{SessionFault}
use Rattle.md_nbd.specs.declared.server.session_fault.SessionFault.TheVariants as session
use Rattle.md_nbd.specs.declared.server.store.Store.{Ghosts as Stores}
use Rattle.md_nbd.specs.declared.server.store.StoreFault.{StoreFault}
use Rattle.md_nbd.specs.declared.server.store.StoreFault.TheVariants.{Lacks, NoMemory, NotWritten}
use Rattle.md_nbd.specs.Export.{most_bytes, sector_bytes}
use Rattle.md_nbd.specs.Server.Sessions.{BreaksSession, EndsSession, is_orderly}
use Rattle.md_streams.specs.declared.gaps.Gaps.{Gaps}
use Rattle.md_read_commands.specs.declared.reader.ArrayReader.{ArrayReader}
use Rattle.md_read_commands.specs.declared.way.Way.{Way}
use Rattle.md_read_commands.specs.Filling.{IsFilled, IsLeastGap}
use Rattle.md_read_commands.specs.Others.{IsNotGiven}
use Rattle.md_streams.specs.Gaps.{HasBothGaps, HasNoGaps, IsGap}
use Rattle.md_read_commands.specs.Holes.{HasSameRoom, capacity_of}
use Rattle.md_read_commands.specs.Reading.{IsReadyTo, RefusesReady}
use Rattle.md_read_commands.specs.Ways.{IsFor, ReadsBy}

-- ---- a request
module _ (way : Way) where
  -- Of so many sectors from this one on, one is not given. It was asked for between the two.
  pub record LacksSector (sector sectors : ℕ) (old new : MirrorView) : Type 0 where
    pub s : ℕ
    pub from : sector ≤ s
    pub below : s < sector + sectors
    pub asked : MirrorView
    pub over : MirrorView
    pub before : Rests old asked
    pub within : Rests asked over
    pub after : Rests over new
    pub lost : IsNotGiven way s asked over

  -- The sector that is told of is such a one.
  abbrev pub LacksAsTold : ℕ → ℕ → MirrorView → MirrorView → StoreFault → Type 0
  LacksAsTold sector sectors old new why = (h : LacksSector sector sectors old new) × (why ≡ Lacks h.s)

  -- These bytes were read, with zeros in the place of sectors that nobody gives, and those that were not given were noted beside those before.
  pub record FillsRequest (sector : ℕ) (bytes : List ℕ) (was now : Gaps)
      (old new : MirrorView) : Type 0 where
    pub gaps : Gaps
    pub filled : IsFilled way sector bytes gaps old new
    pub noted : HasBothGaps was gaps now

  -- All of so many sectors were filled so. Some were not given, and there was no memory to note them.
  pub record FillsUnnotedRequest (sector sectors : ℕ) (old new : MirrorView) : Type 0 where
    pub bytes : List ℕ
    pub many : length bytes / 512 ≡ sectors
    pub gaps : Gaps
    pub filled : IsFilled way sector bytes gaps old new
    pub s : ℕ
    pub lacks : IsGap gaps s

  -- they were read so, or each sector of them was given
  abbrev pub ReadsRequest : Bool → ℕ → List ℕ → Gaps → Gaps → MirrorView → MirrorView
      → Type 0
  ReadsRequest true sector bytes was now old new = FillsRequest sector bytes was now old new
  ReadsRequest false sector bytes was now old new = ReadsBy way sector bytes old new × (now ≡ was)

-- ---- the array as a store
-- The mirror runs, and may be read in this way.
pub record MayBeServed (way : Way) (v : MirrorView) : Type 0 where
  pub sound : IsConsistent v
  pub running : v.array.halted ≡ false
  pub is_for : IsFor way v.array

-- the reader is another only in what it noted
pub record KeepsWay (old new : ArrayReader) : Type 0 where
  pub way : new.way ≡ old.way
  pub fill : new.fill ≡ old.fill
  pub room : HasSameRoom old.holes new.holes

abbrev pub GivesRequest : ArrayReader × MirrorView → ArrayReader × MirrorView → ℕ → List ℕ → Type 0
GivesRequest old new sector bytes =
    KeepsWay old.0 new.0
    × ReadsRequest old.0.way old.0.fill sector bytes old.0.gaps new.0.gaps old.1 new.1

-- One of the sectors is not given. Where they are to be filled, and there is room for as many, each was: no read that failed ends it, but
-- that there is no memory to note them.
abbrev pub RefusesRequest : ArrayReader × MirrorView → ArrayReader × MirrorView → ℕ → ℕ → Type 0
RefusesRequest old new sector sectors =
    KeepsWay old.0 new.0 × (new.0.gaps ≡ old.0.gaps)
    × LacksSector old.0.way sector sectors old.1 new.1
    × (old.0.fill ≡ true → sectors ≤ capacity_of old.0.holes
    → FillsUnnotedRequest old.0.way sector sectors old.1 new.1)

-- A sector is not given, and which it is; or there is no memory to note those that were filled.
abbrev pub WhyRefused : ArrayReader × MirrorView → ArrayReader × MirrorView → ℕ → ℕ → StoreFault → Type 0
WhyRefused old new sector sectors why =
    LacksAsTold old.0.way sector sectors old.1 new.1 why ⊎ ((old.0.fill ≡ true) × (why ≡ NoMemory))

-- No write is done, and none is waited for.
abbrev pub reader_store : Stores ArrayReader MirrorView
reader_store = record {
  is_sound = λ p. MayBeServed p.0.way p.1;
  sectors = λ p. p.1.array.chunks.size;
  reads = λ p q sector bytes. GivesRequest p q sector bytes;
  unread = λ p q sector sectors. RefusesRequest p q sector sectors;
  why_unread = λ p q sector sectors why. WhyRefused p q sector sectors why;
  writes = λ p q sector bytes through. ⊥;
  unwritten = λ p q sector bytes. q ≡ p;
  why_unwritten = λ p q sector bytes why. why ≡ NotWritten;
  flushes = λ p q. q ≡ p;
  unflushed = λ p q. ⊥;
  why_unflushed = λ p q why. ⊥;
  rests = λ p q. q ≡ p;
}

-- what clients are told of it: all of it, only to be read
abbrev pub export_of : ArrayView → Export
export_of a = record { size = sector_bytes * a.chunks.size; readonly = true }

-- ---- a session
module _ {I S : Type 0} (i : Sources I) (o : Sinks S) (first last : ArrayReader) (old new : MirrorView)
    (from to : I) (was now : S) where
  abbrev EndsSo : S → SessionEnd → Type 0
  EndsSo told end =
      EndsSession reader_store i o (export_of old.array) (first, old) (last, new) from to was told end

  abbrev BreaksSo : SessionFault → Type 0
  BreaksSo fault =
      BreaksSession reader_store i o (export_of old.array) (first, old) (last, new) from to was now fault

  -- The client went between two of its messages, and the output holds nothing back.
  pub record ServesClient : Type 0 where
    pub end : SessionEnd
    pub orderly : is_orderly end ≡ true
    pub told : S
    pub session : EndsSo told end
    pub flushed : PutsOut o told now []

  -- It went so, and the output failed then.
  pub record FailsToFlush : Type 0 where
    pub end : SessionEnd
    pub orderly : is_orderly end ≡ true
    pub told : S
    pub session : EndsSo told end
    pub failed : o.failed now ≡ true

  -- It did not go so.
  pub record EndsOtherwise : Type 0 where
    pub end : SessionEnd
    pub otherwise : is_orderly end ≡ false
    pub session : EndsSo now end

  abbrev pub StopsServing : CommandFault → Type 0
  StopsServing InputFault = EndsOtherwise ⊎ BreaksSo session.Source
  StopsServing OutputFault = BreaksSo session.Sink ⊎ FailsToFlush
  StopsServing NoPieceMemory = BreaksSo session.NoMemory
  StopsServing (Read (Unreadable s)) = ServesClient × IsLeastGap last.gaps s
  StopsServing fault = ⊥

  abbrev pub HasServed : Result (Unit {0}) CommandFault → Type 0
  HasServed result = MatchResult result (λ _. ServesClient × HasNoGaps last.gaps) StopsServing

-- ---- the command
-- The array may be read, all of it and as it is, by a reader that has noted nothing yet.
pub record IsFreshReader (fill : Bool) (v : MirrorView) (first : ArrayReader) : Type 0 where
  pub ready : IsReadyTo true 0 v.array.chunks.size v first.way v
  pub fills : first.fill ≡ fill
  pub room : fill ≡ true → most_bytes / 512 ≤ capacity_of first.holes
  pub none : HasNoGaps first.gaps

-- The array may not be read so, or there is no memory for its sectors.
abbrev pub RefusesToBegin : MirrorView → CommandFault → Type 0
RefusesToBegin v NoPieceMemory = (way : Way) × IsReadyTo true 0 v.array.chunks.size v way v
RefusesToBegin v fault = RefusesReady true 0 v.array.chunks.size v v fault

module _ {I S : Type 0} (i : Sources I) (o : Sinks S) (fill : Bool) (old new : MirrorView)
    (gaps : Gaps) (from to : I) (was now : S) where
  pub record ServesBy (result : Result (Unit {0}) CommandFault) : Type 0 where
    pub first : ArrayReader
    pub last : ArrayReader
    pub is : IsFreshReader fill old first
    pub noted : gaps ≡ last.gaps
    pub served : HasServed i o first last old new from to was now result

  -- Nobody was greeted.
  pub record IsUnserved (fault : CommandFault) : Type 0 where
    pub refused : RefusesToBegin old fault
    pub none : HasNoGaps gaps
    pub mirror : new ≡ old
    pub input : to ≡ from
    pub output : now ≡ was

  abbrev pub ServesArray : Result (Unit {0}) CommandFault → Type 0
  ServesArray result = ServesBy result ⊎ MatchResult result (λ _. ⊥) IsUnserved
