-- Sectors of the array are read and put out piece by piece.
use Rattle.std.specs.Prelude.{◌≡◌, ◌⊎◌, ℕ, ◌+◌, ◌*◌, ◌-◌, ◌/◌, ◌%◌, ◌<◌, ◌≤◌, true, List, [], ◌∷◌, ◌++◌, length, take}
use Rattle.std.specs.List.{concat}
use Rattle.md_streams.specs.declared.sink.Sink.{Ghosts}
use Rattle.md_streams.specs.Sink.{Puts}
use Rattle.md_streams.specs.Putting.{PutsOut}
use Rattle.md_state.specs.View.{MirrorView}
use Rattle.md_refusals.specs.declared.fault.CommandFault.{CommandFault}
use Rattle.md_refusals.specs.declared.fault.CommandFault.TheVariants.{NoPieceMemory, OutputFault}
use Rattle.md_read_commands.specs.declared.way.Way.{Way}
use Rattle.md_read_commands.specs.Ways.{EndsReading, ReadsBy}

-- a piece has so many sectors at most: 1 MiB
abbrev pub piece_sectors : ℕ
piece_sectors = 2048

module _ (way : Way) where
  -- ---- what is read
  pub record ReadsPiece (sector : ℕ) (piece : List ℕ) (old new : MirrorView) : Type 0 where
    pub whole : length piece % 512 ≡ 0
    pub few : length piece ≤ 512 * piece_sectors
    pub reads : ReadsBy way sector piece old new

  -- one read after another, each from the sector at which the one before ended, of the mirror as that one left it
  abbrev pub ReadsPieces : ℕ → List (List ℕ) → MirrorView → MirrorView → Type 0
  ReadsPieces sector [] old new = new ≡ old
  ReadsPieces sector (piece ∷ pieces) old new =
      (mid : MirrorView) × ReadsPiece sector piece old mid
      × ReadsPieces (sector + length piece / 512) pieces mid new

  -- these bytes are read so
  pub record ReadsSectors (sector : ℕ) (bytes : List ℕ) (old new : MirrorView) : Type 0 where
    pub pieces : List (List ℕ)
    pub joined : bytes ≡ concat pieces
    pub each : ReadsPieces sector pieces old new
    -- together they are what one read gives
    pub as_one : 0 < length bytes → ReadsBy way sector bytes old new

  -- Sector s of the range was not read, for this reason. The bytes of the sectors before it are those of whole pieces, and of the front of
  -- one whose read ended there.
  pub record ReadsUpTo (sector count s : ℕ) (reason : CommandFault) (bytes : List ℕ)
      (old new : MirrorView) : Type 0 where
    pub mid : MirrorView
    pub done : List ℕ
    pub reads : ReadsSectors sector done old mid
    pub piece : List ℕ
    pub ends : EndsReading way (sector + length done / 512) s piece mid new reason
    pub within : length done + length piece ≤ 512 * count
    pub is : bytes ≡ done ++ take (512 * (s - sector) - length done) piece
    pub as_one : sector < s → ReadsBy way sector bytes old new

  -- some of the range is read: not all of it, perhaps
  abbrev pub ReadsSome : ℕ → ℕ → MirrorView → MirrorView → Type 0
  ReadsSome sector count old new =
      ((bytes : List ℕ) × (length bytes ≤ 512 * count) × ReadsSectors sector bytes old new)
      ⊎ ((s : ℕ) × (reason : CommandFault) × (bytes : List ℕ) × ReadsUpTo sector count s reason bytes old new)

-- ---- what is put out
module _ {S : Type 0} (o : Ghosts S) (way : Way) where
  pub record PutsSectors (sector count : ℕ) (old new : MirrorView) (before after : S) : Type 0 where
    pub bytes : List ℕ
    pub many : length bytes ≡ 512 * count
    pub reads : ReadsSectors way sector bytes old new
    pub shown : PutsOut o before after bytes

  -- Sector s was not read, for this reason. Of a range of one piece nothing is put out, of a longer one the sectors before s are.
  pub record PutsFront (sector count s : ℕ) (reason : CommandFault) (old new : MirrorView)
      (before after : S) : Type 0 where
    pub bytes : List ℕ
    pub reads : ReadsUpTo way sector count s reason bytes old new
    pub short : count ≤ piece_sectors → after ≡ before
    pub long : piece_sectors < count → PutsOut o before after bytes

  -- there is no memory for a piece, or the output failed, or a sector was not read
  abbrev pub RefusesSectors : ℕ → ℕ → MirrorView → MirrorView → S → S → CommandFault → Type 0
  RefusesSectors sector count old new before after NoPieceMemory = (new ≡ old) × (after ≡ before)
  RefusesSectors sector count old new before after OutputFault =
      ReadsSome way sector count old new × (o.failed after ≡ true)
  RefusesSectors sector count old new before after reason =
      (s : ℕ) × PutsFront sector count s reason old new before after

  -- ---- a piece of a longer range
  pub record PutsPiece (sector : ℕ) (piece : List ℕ) (old new : MirrorView) (before after : S) : Type 0 where
    pub reads : ReadsBy way sector piece old new
    pub puts : Puts o.contents o.failed before after piece

  -- the output took the sectors before s
  pub record PutsPieceUpTo (sector s : ℕ) (reason : CommandFault) (piece : List ℕ) (old new : MirrorView)
      (before after : S) : Type 0 where
    pub ends : EndsReading way sector s piece old new reason
    pub shown : PutsOut o before after (take (512 * (s - sector)) piece)

  abbrev pub ReadsPieceOrNot : ℕ → List ℕ → MirrorView → MirrorView → Type 0
  ReadsPieceOrNot sector piece old new =
      ReadsBy way sector piece old new
      ⊎ ((s : ℕ) × (reason : CommandFault) × EndsReading way sector s piece old new reason)

  abbrev pub RefusesPiece : ℕ → List ℕ → MirrorView → MirrorView → S → S → CommandFault → Type 0
  RefusesPiece sector piece old new before after OutputFault =
      ReadsPieceOrNot sector piece old new × (o.failed after ≡ true)
  RefusesPiece sector piece old new before after reason =
      (s : ℕ) × PutsPieceUpTo sector s reason piece old new before after
