-- No read wins or loses a device.
use Rattle.std.proofs.Common.{◌∙◌, ⊎_elim, ℕ, ◌+◌, ◌/◌, Bool, true, false, List, [], ◌∷◌, length, Option, Result, Ok, Err}
use Rattle.md_state.specs.View.{MirrorView}
use Rattle.md_read.specs.declared.fault.UnreadFault.TheVariants as unread
use Rattle.md_resync.specs.declared.fault.ResyncFault.TheVariants as resync
use Rattle.md_streams.specs.declared.sink.Sink.{Ghosts as SinkGhosts}
use Rattle.md_refusals.specs.declared.fault.CommandFault.{CommandFault}
use Rattle.md_refusals.specs.declared.fault.CommandFault.TheVariants.{NoPieceMemory, OutputFault, Read, Resync}
use Rattle.md_commands.proofs.DeviceCounts.{AsMany, not_readied, readied, refused, same}
use Rattle.md_streams.specs.declared.gaps.Gaps.{Gaps}
use Rattle.md_read_commands.specs.declared.way.Way.{Way}
use Rattle.md_read_commands.specs.declared.way.Way.TheVariants.{Resynced}
use Rattle.md_read_commands.specs.Filling.{FillsSome, PutsAll, ReadsFilled, RefusesToFill}
use Rattle.md_read_commands.specs.Pieces.{ReadsPieces, ReadsSectors, ReadsSome, ReadsUpTo, RefusesSectors}
use Rattle.md_read_commands.specs.Reading.{FailsReadyRead, FailsReadonly, IsReadyTo, ReadsArray, ReadsReadonly, RefusesReadonly, RefusesReady, RefusesToRead}
use Rattle.md_read_commands.proofs.Ways.{ends_rest, reads_rests}

pieces_read : (way : Way) (sector : ℕ) (pieces : List (List ℕ)) (old new : MirrorView) → ReadsPieces way sector pieces old new → AsMany old new
pieces_read way sector [] old new h = same old new h
pieces_read way sector (piece ∷ pieces) old new h =
    pieces_read way (sector + length piece / 512) pieces h.0 new h.2 ∙ (reads_rests way sector piece old h.0 h.1.reads).disks.same.as_many

sectors_read : (way : Way) (sector : ℕ) (bytes : List ℕ) (old new : MirrorView) → ReadsSectors way sector bytes old new → AsMany old new
sectors_read way sector bytes old new h = pieces_read way sector h.pieces old new h.each

read_up_to : (way : Way) (sector count s : ℕ) (reason : CommandFault) (bytes : List ℕ) (old new : MirrorView) → ReadsUpTo way sector count s reason bytes old new → AsMany old new
read_up_to way sector count s reason bytes old new h =
    (ends_rest way _ s h.piece h.mid new reason h.ends).disks.same.as_many ∙ sectors_read way sector h.done old h.mid h.reads

some_read : (way : Way) (sector count : ℕ) (old new : MirrorView) → ReadsSome way sector count old new → AsMany old new
some_read way sector count old new h = ⊎_elim (λ r. sectors_read way sector r.0 old new r.2) (λ r. read_up_to way sector count r.0 r.1 r.2 old new r.3) h

sectors_refused : {S : Type 0} (s : SinkGhosts S) (way : Way) (sector count : ℕ) (old new : MirrorView) (before after : S) (fault : CommandFault)
    → RefusesSectors s way sector count old new before after fault → AsMany old new
sectors_refused s way sector count old new before after NoPieceMemory h = same old new h.0
sectors_refused s way sector count old new before after OutputFault h = some_read way sector count old new h.0
sectors_refused s way sector count old new before after reason h = read_up_to way sector count h.0 reason h.1.bytes old new h.1.reads

module _ {S : Type 0} (s : SinkGhosts S) (old new : MirrorView) (before after : S) (sector count : ℕ) where
  pub done_read : ReadsArray s sector count old new before after → AsMany old new
  done_read h = sectors_read Resynced sector h.puts.bytes h.ready new h.puts.reads ∙ readied old h.ready h.readied.readied

  fails_readied : (fault : CommandFault) → FailsReadyRead s sector count old new before after fault → AsMany old new
  fails_readied fault h = sectors_refused s Resynced sector count h.ready new before after fault h.refused ∙ readied old h.ready h.readied.readied

  pub reads_as_many : (fault : CommandFault) → RefusesToRead s sector count old new before after fault → AsMany old new
  reads_as_many (Read unread.Halted) h = refused old new _ h.0
  reads_as_many (Read unread.OutOfRange) h = refused old new _ h.0
  reads_as_many (Read unread.NotResynced) h = refused old new _ h.0
  reads_as_many (Read (unread.Unreadable x)) h = fails_readied (Read (unread.Unreadable x)) h
  reads_as_many (Resync fault) h = not_readied fault old new h.1
  reads_as_many NoPieceMemory h = fails_readied NoPieceMemory h
  reads_as_many OutputFault h = fails_readied OutputFault h
  reads_as_many fault h = absurd h

  pub done_readonly : ReadsReadonly s sector count old new before after → AsMany old new
  done_readonly h = sectors_read h.way sector h.puts.bytes old new h.puts.reads

  fails_readonly : (fault : CommandFault) → FailsReadonly s sector count old new before after fault → AsMany old new
  fails_readonly fault h = sectors_refused s h.way sector count old new before after fault h.refused

  pub reads_readonly_as_many : (fault : CommandFault) → RefusesReadonly s sector count old new before after fault → AsMany old new
  reads_readonly_as_many (Read unread.Halted) h = refused old new _ h.0
  reads_readonly_as_many (Read unread.OutOfRange) h = refused old new _ h.0
  reads_readonly_as_many (Read unread.NotResynced) h = refused old new _ h.0
  reads_readonly_as_many (Read (unread.Unreadable x)) h = fails_readonly (Read (unread.Unreadable x)) h
  reads_readonly_as_many (Resync (resync.ReadFault k c)) h = fails_readonly (Resync (resync.ReadFault k c)) h
  reads_readonly_as_many NoPieceMemory h = fails_readonly NoPieceMemory h
  reads_readonly_as_many OutputFault h = fails_readonly OutputFault h
  reads_readonly_as_many fault h = absurd h

-- ---- sectors are read, and those that are not given are filled
some_filled : (way : Way) (sector count : ℕ) (gaps : Gaps) (old new : MirrorView) → FillsSome way sector count gaps old new → AsMany old new
some_filled way sector count gaps old new h = h.filled.fills.rests.disks.same.as_many

made_ready : (readonly : Bool) (sector count : ℕ) (old ready : MirrorView) (way : Way) → IsReadyTo readonly sector count old way ready → AsMany old ready
made_ready false sector count old ready way h = readied old ready h.0.readied
made_ready true sector count old ready way h = same old ready h.2

not_made_ready : (readonly : Bool) (sector count : ℕ) (old new : MirrorView) (fault : CommandFault) → RefusesReady readonly sector count old new fault → AsMany old new
not_made_ready readonly sector count old new (Read unread.Halted) h = refused old new _ h
not_made_ready readonly sector count old new (Read unread.OutOfRange) h = refused old new _ h
not_made_ready readonly sector count old new (Read unread.NotResynced) h = refused old new _ h
not_made_ready false sector count old new (Resync fault) h = not_readied fault old new h.1
not_made_ready readonly sector count old new fault h = absurd h

module _ {S : Type 0} (s : SinkGhosts S) (readonly : Bool) (sector count : ℕ) (old new : MirrorView) (before after : S) where
  module _ (gaps : Gaps) where
    all_put : PutsAll s readonly sector count gaps old new before after → AsMany old new
    all_put h = h.puts.filled.fills.rests.disks.same.as_many ∙ made_ready readonly sector count old h.ready h.way h.readied

    not_filled : (fault : CommandFault) → RefusesToFill s readonly sector count gaps old new before after fault → AsMany old new
    not_filled NoPieceMemory h = ⊎_elim
        (λ nothing. same h.ready new nothing.unread)
        (λ until. some_filled h.way sector count until.gaps h.ready new until.put.some)
        h.refused
        ∙ made_ready readonly sector count old h.ready h.way h.readied
    not_filled OutputFault h = some_filled h.way sector count gaps h.ready new h.refused.0 ∙ made_ready readonly sector count old h.ready h.way h.readied
    not_filled (Read (unread.Unreadable x)) h = all_put h.0
    not_filled (Read unread.Halted) h = not_made_ready readonly sector count old new (Read unread.Halted) h.refused
    not_filled (Read unread.OutOfRange) h = not_made_ready readonly sector count old new (Read unread.OutOfRange) h.refused
    not_filled (Read unread.NotResynced) h = not_made_ready readonly sector count old new (Read unread.NotResynced) h.refused
    not_filled (Resync fault) h = not_made_ready readonly sector count old new (Resync fault) h.refused
    not_filled fault h = absurd h

  pub fills_as_many : (told : Option Gaps) (result : Result (Unit {0}) CommandFault) → ReadsFilled s readonly sector count old new before after told result → AsMany old new
  fills_as_many told (Ok x) h = all_put h.gaps h.gives.puts
  fills_as_many told (Err fault) h = not_filled h.gaps fault h.gives
