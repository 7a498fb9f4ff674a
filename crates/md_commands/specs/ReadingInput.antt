-- The input of a write is read.
use Rattle.std.specs.Prelude.{◌≡◌, ◌≢◌, ℕ, ◌+◌, ◌*◌, ◌%◌, ◌<◌, ◌≤◌, List, ◌++◌, length}
use Rattle.std.specs.Io.KnownBytes.{IsAtEnd}
use Rattle.md_streams.specs.declared.source.Source.{Ghosts}
use Rattle.md_refusals.specs.declared.fault.CommandFault.{CommandFault}
use Rattle.md_refusals.specs.declared.fault.CommandFault.TheVariants.{BadLength, InputFault, NoPieceMemory, OutOfRange}
use Rattle.md_streams.specs.FrontFilled.{FailsAfter}
use Rattle.md_streams.specs.Source.{Gives}

-- so many bytes are whole sectors, and no more than an array of so many sectors has
pub record HasGoodLength (size len : ℕ) : Type 0 where
  pub few : len ≤ 512 * size
  pub whole : len % 512 ≡ 0

abbrev pub RefusesLength : ℕ → ℕ → CommandFault → Type 0
RefusesLength size len OutOfRange = 512 * size < len
RefusesLength size len BadLength = (len ≤ 512 * size) × (len % 512 ≢ 0)
RefusesLength size len fault = ⊥

module _ {I : Type 0} (i : Ghosts I) where
  -- these bytes came, so many at most: fewer only where no more are there
  pub record TakesUpTo (most : ℕ) (old new : I) (bytes : List ℕ) : Type 0 where
    pub gives : Gives i.remaining i.failed old new bytes
    pub few : length bytes ≤ most
    pub all : length bytes < most → IsAtEnd (i.remaining new)

  -- these bytes are all of the input, and have a good length for an array of so many sectors
  pub record IsInput (size : ℕ) (old new : I) (bytes : List ℕ) : Type 0 where
    pub gives : Gives i.remaining i.failed old new bytes
    pub all : IsAtEnd (i.remaining new)
    pub good : HasGoodLength size (length bytes)

  -- the input has one byte more than the array, at least
  pub record IsTooLong (size : ℕ) (old new : I) : Type 0 where
    pub bytes : List ℕ
    pub gives : Gives i.remaining i.failed old new bytes
    pub more : length bytes ≡ 512 * size + 1

  -- the input ends within a sector
  pub record IsUneven (size : ℕ) (old new : I) : Type 0 where
    pub bytes : List ℕ
    pub gives : Gives i.remaining i.failed old new bytes
    pub all : IsAtEnd (i.remaining new)
    pub few : length bytes ≤ 512 * size
    pub uneven : length bytes % 512 ≢ 0

  -- Bytes came, so many at most, and no call failed: there was no memory for them. That memory was short is not said.
  pub record LacksMemoryFor (most : ℕ) (old new : I) : Type 0 where
    pub bytes : List ℕ
    pub few : length bytes ≤ most
    pub gives : Gives i.remaining i.failed old new bytes

  -- an input for an array of so many sectors is not read
  abbrev pub ReadingInputFails : ℕ → I → I → CommandFault → Type 0
  ReadingInputFails size old new InputFault = FailsAfter i (512 * size) old new
  ReadingInputFails size old new NoPieceMemory = LacksMemoryFor (512 * size + 1) old new
  ReadingInputFails size old new fault = ⊥

  -- a piece of so many bytes is not
  abbrev pub AppendingFails : ℕ → I → I → CommandFault → Type 0
  AppendingFails room old new InputFault = FailsAfter i 0 old new
  AppendingFails room old new NoPieceMemory = LacksMemoryFor room old new
  AppendingFails room old new fault = ⊥

  abbrev pub RefusesInput : ℕ → I → I → CommandFault → Type 0
  RefusesInput size old new OutOfRange = IsTooLong size old new
  RefusesInput size old new BadLength = IsUneven size old new
  RefusesInput size old new fault = ReadingInputFails size old new fault

  -- a piece of so many bytes was taken, and appended to those before it
  pub record AppendsPiece (room : ℕ) (old new : I) (was bytes : List ℕ) (n : ℕ) : Type 0 where
    pub piece : List ℕ
    pub gives : Gives i.remaining i.failed old new piece
    pub appended : bytes ≡ was ++ piece
    pub long : length piece ≡ n
    pub few : n ≤ room
    pub end : n ≡ 0 → 0 < room → IsAtEnd (i.remaining new)
