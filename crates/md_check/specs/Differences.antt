-- What members show in the sectors of an array, and the chunks in which some two of them differ or each pair.
use Rattle.std.specs.Prelude.{◌≡◌, ◌≢◌, ℕ, ◌<◌, ◌≤◌, ◌↔◌, ◌⊎◌, true, false, List, length, slice_index_or}
use Rattle.std.specs.Int.{div_ceil}
use Rattle.std.specs.List.{All}
use Rattle.md_bitmap.specs.declared.chunks.Chunks.{Chunks}
use Rattle.md_bitmap.specs.Chunks.{InChunk}
use Rattle.md_bitmap.specs.Marks.{Bitmap, is_set}
use Rattle.md_collect.specs.declared.found.Comparison.{Comparison}
use Rattle.md_collect.specs.declared.found.Pair.{Pair}

-- `Shown k s bytes`: member k shows these bytes in sector s of the array
module _ (Shown : ℕ → ℕ → List ℕ → Type 0) where
  -- these two members show different bytes in the sector
  pub record DifferBetween (one other s : ℕ) : Type 0 where
    pub bytes : List ℕ
    pub other_bytes : List ℕ
    pub shows : Shown one s bytes
    pub shows_other : Shown other s other_bytes
    pub differ : bytes ≢ other_bytes

  -- some two do
  pub record DifferIn (s : ℕ) : Type 0 where
    pub one : ℕ
    pub other : ℕ
    pub between : DifferBetween one other s

-- `Differ s`: members differ in sector s of the array
module _ (Differ : ℕ → Type 0) where
  -- they do in a sector of chunk c, from one sector of the array on and before another
  pub record DifferWithin (chunks : Chunks) (from end c : ℕ) : Type 0 where
    pub sector : ℕ
    pub inside : InChunk chunks.sectors chunks.size c sector
    pub not_before : from ≤ sector
    pub before : sector < end
    pub differ : Differ sector

  -- a set of the chunks in which they do so before a sector
  pub record AreDifferent (chunks : Chunks) (end : ℕ) (marks : Bitmap) : Type 0 where
    pub bits : (c : ℕ) → (is_set marks.bytes c ≡ true) ↔ DifferWithin chunks 0 end c

  -- a set to which those are added in which they do so from one sector on and before another
  pub record AddsDifferent (chunks : Chunks) (from end : ℕ) (old new : Bitmap) : Type 0 where
    pub chunks_kept : new.chunks ≡ old.chunks
    pub bits : (c : ℕ) → (is_set new.bytes c ≡ true) ↔ ((is_set old.bytes c ≡ true) ⊎ DifferWithin chunks from end c)

-- the set has no chunk
abbrev pub IsEmptySet : Bitmap → Type 0
IsEmptySet set = (c : ℕ) → is_set set.bytes c ≡ false

-- no set has a chunk
pub record IsEmpty (found : Comparison) : Type 0 where
  pub none : IsEmptySet found.chunks
  pub pairs_none : All (λ pair. IsEmptySet pair.chunks) found.pairs.items

-- a pair of the same two members, with a set of as many chunks
pub record IsSamePair (old new : Pair) : Type 0 where
  pub one : new.one ≡ old.one
  pub other : new.other ≡ old.other
  pub chunks : new.chunks.chunks ≡ old.chunks.chunks

-- each pair stays that of its two members
pub record KeepsPairs (old new : Comparison) : Type 0 where
  pub chunks : new.chunks.chunks ≡ old.chunks.chunks
  pub as_many : length new.pairs.items ≡ length old.pairs.items
  pub each : (p : ℕ) (d : Pair) → p < length old.pairs.items
      → IsSamePair (slice_index_or old.pairs.items p d) (slice_index_or new.pairs.items p d)

module _ (Shown : ℕ → ℕ → List ℕ → Type 0) where
  -- the chunks in which some two members differ before a sector, and of each pair those in which these two do
  pub record AreCompared (chunks : Chunks) (end : ℕ) (found : Comparison) : Type 0 where
    pub some : AreDifferent (DifferIn Shown) chunks end found.chunks
    pub each : All (λ pair. AreDifferent (DifferBetween Shown pair.one pair.other) chunks end pair.chunks)
        found.pairs.items

  -- a pair to whose chunks those are added in which its members differ from one sector on and before another
  pub record AddsToPair (chunks : Chunks) (from end : ℕ) (old new : Pair) : Type 0 where
    pub one_kept : new.one ≡ old.one
    pub other_kept : new.other ≡ old.other
    pub adds : AddsDifferent (DifferBetween Shown old.one old.other) chunks from end old.chunks new.chunks

  -- each of these pairs is one to which they are added
  pub record AddsToPairs (chunks : Chunks) (from end : ℕ) (olds news : List Pair) : Type 0 where
    pub as_many : length news ≡ length olds
    pub each : (p : ℕ) (d : Pair) → p < length olds
        → AddsToPair chunks from end (slice_index_or olds p d) (slice_index_or news p d)

  -- a comparison goes on from one sector to another
  pub record AddsCompared (chunks : Chunks) (from end : ℕ) (old new : Comparison) : Type 0 where
    pub some : AddsDifferent (DifferIn Shown) chunks from end old.chunks new.chunks
    pub pairs : AddsToPairs chunks from end old.pairs.items new.pairs.items
