-- An input whose length is known is written piece by piece.
use Rattle.std.specs.Prelude.{◌≡◌, ◌⊎◌, ℕ, ◌+◌, ◌*◌, ◌-◌, ◌/◌, ◌%◌, ◌<◌, ◌≤◌, Bool, true, min, List, [], ◌∷◌, ◌++◌, length}
use Rattle.std.specs.Io.KnownBytes.{Consumes, IsAtEnd}
use Rattle.std.specs.List.{concat}
use Rattle.md_faults.specs.declared.step_fault.BeginFault.{BeginFault}
use Rattle.md_faults.specs.declared.step_fault.BeginFault.TheVariants as begin
use Rattle.md_resync.specs.declared.fault.ResyncFault.{ResyncFault}
use Rattle.md_state.specs.Steps.Begin.{HasMarked, IsInRange}
use Rattle.md_state.specs.View.{MirrorView}
use Rattle.md_write.specs.Writing.{RefusesWrite, Writes}
use Rattle.md_refusals.specs.declared.fault.CommandFault.{CommandFault}
use Rattle.md_refusals.specs.declared.fault.CommandFault.TheVariants.{BadLength, InputFault, NoPieceMemory, Resync, Write}
use Rattle.md_streams.specs.declared.source.Source.{Ghosts}
use Rattle.md_streams.specs.FrontFilled.{FailsAfter}
use Rattle.md_commands.specs.Resyncing.{RefusesNeededResync, ResyncsIfNeeded}
use Rattle.md_streams.specs.Source.{Gives}

-- a piece has so many sectors at most: 16 MiB
abbrev pub most_at_once : ℕ
most_at_once = 32768

-- How many sectors the piece has that begins at this one, where so many are left. The array is cut at each 16 MiB, so that a piece has
-- whole chunks of the bitmap, or lies within one; the first begins where the input does, and the last ends with it.
abbrev pub sectors_at_once : ℕ → ℕ → ℕ
sectors_at_once sector left = min left (most_at_once - sector % most_at_once)

-- One write after another, each from the sector at which the one before ended, of the mirror as that one left it. So many sectors are
-- left before the first.
abbrev pub WritesPieces : ℕ → ℕ → List (List ℕ) → MirrorView → MirrorView → Type 0
WritesPieces sector left [] old new = new ≡ old
WritesPieces sector left (piece ∷ pieces) old new =
    (mid : MirrorView) × (length piece ≡ 512 * sectors_at_once sector left) × Writes sector piece old mid
    × WritesPieces (sector + length piece / 512) (left - length piece / 512) pieces mid new

-- the array is resynced where it has to be, and has all sectors of the input
pub record IsReadyForPieces (sector count : ℕ) (old ready : MirrorView) : Type 0 where
  pub readied : ResyncsIfNeeded old ready
  pub range : IsInRange ready.array sector count

-- The array is not resynced, or has not all of them.
abbrev pub RefusesReadying : ℕ → ℕ → MirrorView → MirrorView → CommandFault → Type 0
RefusesReadying sector count old new (Resync fault) = RefusesNeededResync old new fault
RefusesReadying sector count old new (Write begin.OutOfRange) =
    ResyncsIfNeeded old new × (IsInRange new.array sector count → ⊥)
RefusesReadying sector count old new fault = ⊥

-- Of an input of so many sectors, which the array has from this one on, these bytes are written: the array is resynced where it has to
-- be, and then they are written piece by piece. Their chunks are marked in memory then, as by one write.
pub record WritesFront (sector count : ℕ) (bytes : List ℕ) (old new : MirrorView) : Type 0 where
  pub ready : MirrorView
  pub readied : IsReadyForPieces sector count old ready
  pub pieces : List (List ℕ)
  pub joined : bytes ≡ concat pieces
  pub each : WritesPieces sector count pieces ready new
  pub marked : 0 < length bytes → HasMarked ready.array sector (length bytes / 512) new.array.marks

-- So many sectors of it are written, whose bytes these are. Before the first piece nothing is done: the array is not resynced either.
pub record HasWritten (sector count written : ℕ) (bytes : List ℕ) (old new : MirrorView) : Type 0 where
  pub many : length bytes ≡ 512 * written
  pub none : written ≡ 0 → new ≡ old
  pub some : 0 < written → WritesFront sector count bytes old new

-- A watch was told how many sectors of the input stand, where some do.
abbrev pub IsToldOfFront : {W : Type 0} → (W → ℕ → Type 0) → W → ℕ → Type 0
IsToldOfFront has_written watch written = 0 < written → has_written watch written

-- A watch was told how many sectors the input has, and that all stand.
pub record IsToldOfAll {W : Type 0} (writes has_written : W → ℕ → Type 0) (watch : W) (count : ℕ)
    : Type 0 where
  pub all : writes watch count
  pub done : has_written watch count

module _ {I : Type 0} (i : Ghosts I) where
  -- ---- a piece of the input
  -- no byte came
  pub record HasEnded (old new : I) : Type 0 where
    pub gives : Gives i.remaining i.failed old new []
    pub end : IsAtEnd (i.remaining new)

  -- one came
  pub record GoesOnAfter (old new : I) : Type 0 where
    pub bytes : List ℕ
    pub one : length bytes ≡ 1
    pub gives : Gives i.remaining i.failed old new bytes

  abbrev pub FailsToEnd : I → I → CommandFault → Type 0
  FailsToEnd old new InputFault = FailsAfter i 0 old new
  FailsToEnd old new BadLength = GoesOnAfter old new
  FailsToEnd old new fault = ⊥

  -- it is taken; and after the last one no byte comes
  pub record TakesPiece (is_last : Bool) (old new : I) (piece : List ℕ) : Type 0 where
    pub gives : Gives i.remaining i.failed old new piece
    pub end : is_last ≡ true → IsAtEnd (i.remaining new)

  -- The input ends within a piece of so many bytes, or goes on after the last one.
  pub record EndsElsewhere (is_last : Bool) (long : ℕ) (old new : I) : Type 0 where
    pub bytes : List ℕ
    pub gives : Gives i.remaining i.failed old new bytes
    pub other : ((length bytes < long) × IsAtEnd (i.remaining new))
        ⊎ ((is_last ≡ true) × (length bytes ≡ long + 1))

  abbrev pub FailsToTakePiece : Bool → ℕ → I → I → CommandFault → Type 0
  FailsToTakePiece is_last long old new InputFault = FailsAfter i long old new
  FailsToTakePiece is_last long old new BadLength = EndsElsewhere is_last long old new
  FailsToTakePiece is_last long old new fault = ⊥

  -- ---- all of it
  -- Bytes of an input of so many are taken. Where these are all it is at its end.
  pub record TakesFront (len : ℕ) (input rest : I) (bytes : List ℕ) : Type 0 where
    pub gives : Gives i.remaining i.failed input rest bytes
    pub end : length bytes ≡ len → IsAtEnd (i.remaining rest)

  module _ (sector len : ℕ) where
    -- the array is ready, and the first piece is taken and written
    pub record BeginsPieces (old new : MirrorView) (input rest : I) (piece : List ℕ) : Type 0 where
      pub ready : MirrorView
      pub readied : IsReadyForPieces sector (len / 512) old ready
      pub writes : Writes sector piece ready new
      pub takes : TakesFront len input rest piece

    -- all of it is taken and written
    pub record WritesInPieces (old new : MirrorView) (input rest : I) : Type 0 where
      pub bytes : List ℕ
      pub many : length bytes ≡ len
      pub takes : TakesFront len input rest bytes
      pub writes : WritesFront sector (len / 512) bytes old new

    module _ (written : ℕ) (old new : MirrorView) (input rest : I) where
      -- A call failed that was to take bytes of a piece. Those before it are written.
      pub record BreaksOffWriting : Type 0 where
        pub bytes : List ℕ
        pub stands : HasWritten sector (len / 512) written bytes old new
        -- where any piece is written, the last one is not
        pub unfinished : 0 < written → written < len / 512
        pub piece : List ℕ
        pub few : length piece ≤ 512 * sectors_at_once (sector + written) (len / 512 - written)
        pub taken : Consumes (i.remaining input) (i.remaining rest) (bytes ++ piece)
        pub has_failed : i.failed rest ≡ true

      -- The input has another length than was known: it ended early, or went on. What comes in the last piece then is not written.
      pub record IsNotAsTold : Type 0 where
        pub bytes : List ℕ
        pub stands : HasWritten sector (len / 512) written bytes old new
        -- where any piece is written, the last one is not
        pub unfinished : 0 < written → written < len / 512
        pub piece : List ℕ
        pub few : length piece ≤ 512 * sectors_at_once (sector + written) (len / 512 - written) + 1
        pub gives : Gives i.remaining i.failed input rest (bytes ++ piece)
        pub other : ((length (bytes ++ piece) < len) × IsAtEnd (i.remaining rest))
            ⊎ (length (bytes ++ piece) ≡ len + 1)

      -- the first piece is taken, and the array is not resynced
      pub record FailsToReady (fault : ResyncFault) : Type 0 where
        pub none : written ≡ 0
        pub piece : List ℕ
        pub many : length piece ≡ 512 * sectors_at_once sector (len / 512)
        pub takes : TakesFront len input rest piece
        pub refused : RefusesNeededResync old new fault

      -- it is taken, and the array has not all sectors of the input, of which is told after a resync
      pub record IsPastEnd : Type 0 where
        pub none : written ≡ 0
        pub piece : List ℕ
        pub many : length piece ≡ 512 * sectors_at_once sector (len / 512)
        pub takes : TakesFront len input rest piece
        pub readied : ResyncsIfNeeded old new
        pub past : IsInRange new.array sector (len / 512) → ⊥

      -- A piece is taken and not written. Those before it are written.
      pub record FailsAtPiece (fault : BeginFault) : Type 0 where
        pub bytes : List ℕ
        pub many : length bytes ≡ 512 * written
        pub mid : MirrorView
        pub stands : WritesFront sector (len / 512) bytes old mid
        pub piece : List ℕ
        pub long : length piece ≡ 512 * sectors_at_once (sector + written) (len / 512 - written)
        pub takes : TakesFront len input rest (bytes ++ piece)
        pub refused : RefusesWrite (sector + written) piece mid new fault

      -- So many sectors are written, and no more.
      abbrev pub RefusesPieces : CommandFault → Type 0
      RefusesPieces InputFault = BreaksOffWriting
      RefusesPieces NoPieceMemory = (written ≡ 0) × (new ≡ old) × (rest ≡ input)
      RefusesPieces BadLength = IsNotAsTold
      RefusesPieces (Resync fault) = FailsToReady fault
      RefusesPieces (Write begin.OutOfRange) = IsPastEnd
      RefusesPieces (Write fault) = FailsAtPiece fault
      RefusesPieces fault = ⊥
