-- The command that writes to an array.
use Rattle.std.specs.Prelude.{◌≡◌, ◌⊎◌, ℕ, ◌/◌, ◌<◌, true, false, List, length, Option, Some, None}
use Rattle.md_streams.specs.declared.sink.Sink.{Ghosts as SinkGhosts}
use Rattle.md_faults.specs.declared.step_fault.BeginFault.{BeginFault}
use Rattle.md_faults.specs.declared.step_fault.BeginFault.TheVariants.{Halted}
use Rattle.md_state.specs.Trying.{RefusesHalted}
use Rattle.md_state.specs.View.{MirrorView}
use Rattle.md_metadata.specs.declared.stop_fault.StopFault.{StopFault}
use Rattle.md_write.specs.Writing.{RefusesWrite, Writes}
use Rattle.md_report.specs.AsText.WholeArray.SummaryReport.{summary_text}
use Rattle.md_refusals.specs.declared.fault.CommandFault.{CommandFault}
use Rattle.md_refusals.specs.declared.fault.CommandFault.TheVariants.{BadLength, InputFault, NoPieceMemory, OutOfRange, OutputFault, Resync, Stop, Write}
use Rattle.md_streams.specs.declared.source.Source.{Ghosts as SourceGhosts}
use Rattle.md_streams.specs.Putting.{PutsOut}
use Rattle.md_commands.specs.ReadingInput.{IsInput, RefusesInput}
use Rattle.md_commands.specs.Resyncing.{RefusesNeededResync, ResyncsIfNeeded}
use Rattle.md_commands.specs.Stopping.{FailsToStop, StopsAfter}
use Rattle.md_commands.specs.ToldLength.{MayBeTaken, RefusesKnown, known_length}
use Rattle.md_commands.specs.WritingPieces.{IsToldOfAll, RefusesPieces, WritesFront}

-- the array is resynced where it has to be, and then the bytes are written
pub record WritesReadied (sector : ℕ) (bytes : List ℕ) (old new : MirrorView) : Type 0 where
  pub ready : MirrorView
  pub readied : ResyncsIfNeeded old ready
  pub writes : Writes sector bytes ready new

-- The bytes are not written, for this fault.
pub record FailsReadyWrite (sector : ℕ) (bytes : List ℕ) (old new : MirrorView)
    (fault : BeginFault) : Type 0 where
  pub ready : MirrorView
  pub readied : ResyncsIfNeeded old ready
  pub refused : RefusesWrite sector bytes ready new fault

abbrev pub RefusesBytes : ℕ → List ℕ → MirrorView → MirrorView → CommandFault → Type 0
RefusesBytes sector bytes old new (Resync fault) = RefusesNeededResync old new fault
RefusesBytes sector bytes old new (Write fault) = FailsReadyWrite sector bytes old new fault
RefusesBytes sector bytes old new fault = ⊥

-- The bytes of an input are written: by one write where its length was not known, and else piece by piece.
abbrev pub WritesBytes : Option ℕ → ℕ → List ℕ → MirrorView → MirrorView → Type 0
WritesBytes None sector bytes old new = WritesReadied sector bytes old new
WritesBytes (Some len) sector bytes old new =
    (length bytes ≡ len) × WritesFront sector (len / 512) bytes old new

module _ {I : Type 0} (i : SourceGhosts I) (sector : ℕ) (old new : MirrorView) (input rest : I) where
  -- all of the input is written
  pub record WritesInput (told : Option ℕ) : Type 0 where
    pub bytes : List ℕ
    pub is : IsInput i old.array.chunks.size input rest bytes
    pub writes : WritesBytes told sector bytes old new

  -- it is read into memory, and not written
  pub record FailsFromMemory (fault : CommandFault) : Type 0 where
    pub bytes : List ℕ
    pub is : IsInput i old.array.chunks.size input rest bytes
    pub refused : RefusesBytes sector bytes old new fault

  -- It is not read into memory, and then nothing is done; or it is not written.
  abbrev pub RefusesInMemory : CommandFault → Type 0
  RefusesInMemory (Resync fault) = FailsFromMemory (Resync fault)
  RefusesInMemory (Write fault) = FailsFromMemory (Write fault)
  RefusesInMemory fault = RefusesInput i old.array.chunks.size input rest fault × (new ≡ old)

  -- Not all of it is written, but so many sectors: none where its length was not known.
  abbrev pub RefusesWriting : Option ℕ → ℕ → CommandFault → Type 0
  RefusesWriting None written fault = (written ≡ 0) × RefusesInMemory fault
  RefusesWriting (Some len) written fault = RefusesPieces i sector len written old new input rest fault

-- Of an input whose length was known a watch was told how many sectors it has, and that all stand.
abbrev pub IsToldOfLength : {W : Type 0} → (W → ℕ → Type 0) → (W → ℕ → Type 0) → W → Option ℕ → Type 0
IsToldOfLength writes has_written watch None = Unit {0}
IsToldOfLength writes has_written watch (Some len) = IsToldOfAll writes has_written watch (len / 512)

module _ {I S : Type 0} (i : SourceGhosts I) (s : SinkGhosts S) (sector : ℕ) (count : Option ℕ)
    (old new : MirrorView) (input rest : I) (before after : S) where
  -- how many bytes the input has to have, where that is known
  abbrev known : Option ℕ
  known = known_length count (i.told input)

  -- all of the input is written, the array is stopped, and then shown
  pub record WritesArray : Type 0 where
    pub may : MayBeTaken old.array sector count (i.told input)
    pub bytes : List ℕ
    pub is : IsInput i old.array.chunks.size input rest bytes
    pub done : StopsAfter (WritesBytes known sector bytes old) new
    pub shown : PutsOut s before after (summary_text new.array)

  -- the mirror is halted, and nothing is done
  pub record RefusesUnread (fault : BeginFault) : Type 0 where
    pub is : fault ≡ Halted
    pub refused : RefusesHalted old new
    pub unread : rest ≡ input
    pub unwritten : after ≡ before

  -- the input is refused for the length that is known of it, and nothing is done: it is not read
  pub record RefusesToldInput (fault : CommandFault) : Type 0 where
    pub running : old.array.halted ≡ false
    pub refused : RefusesKnown old.array sector count (i.told input) fault
    pub unchanged : new ≡ old
    pub unread : rest ≡ input
    pub unwritten : after ≡ before

  -- the input is read and refused, or not written to its end
  pub record FailsInput (written : ℕ) (fault : CommandFault) : Type 0 where
    pub running : old.array.halted ≡ false
    pub may : MayBeTaken old.array sector count (i.told input)
    pub refused : RefusesWriting i sector old new input rest known written fault
    pub unwritten : after ≡ before

  -- it is written, and the array is not stopped
  pub record FailsUnstopped (fault : StopFault) : Type 0 where
    pub running : old.array.halted ≡ false
    pub may : MayBeTaken old.array sector count (i.told input)
    pub bytes : List ℕ
    pub is : IsInput i old.array.chunks.size input rest bytes
    pub refused : FailsToStop (WritesBytes known sector bytes old) new fault
    pub unwritten : after ≡ before

  -- all is done, and the output failed
  pub record WritesInVain : Type 0 where
    pub may : MayBeTaken old.array sector count (i.told input)
    pub bytes : List ℕ
    pub is : IsInput i old.array.chunks.size input rest bytes
    pub done : StopsAfter (WritesBytes known sector bytes old) new
    pub failed : s.failed after ≡ true

  -- of the input so many sectors are written before it is refused
  abbrev pub RefusesToWrite : ℕ → CommandFault → Type 0
  RefusesToWrite written InputFault = FailsInput written InputFault
  RefusesToWrite written NoPieceMemory = FailsInput written NoPieceMemory
  RefusesToWrite written OutOfRange = RefusesToldInput OutOfRange ⊎ FailsInput written OutOfRange
  RefusesToWrite written BadLength = RefusesToldInput BadLength ⊎ FailsInput written BadLength
  RefusesToWrite written (Resync fault) = FailsInput written (Resync fault)
  RefusesToWrite written (Write fault) =
      RefusesUnread fault ⊎ RefusesToldInput (Write fault) ⊎ FailsInput written (Write fault)
  RefusesToWrite written (Stop fault) = FailsUnstopped fault
  RefusesToWrite written OutputFault = WritesInVain
  RefusesToWrite written fault = ⊥
