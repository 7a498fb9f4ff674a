-- Which chunks are marked: bit i of the bitmap stands for chunk i (md-bitmap.c, md-bitmap.h).
use Rattle.std.specs.Prelude.{◌≡◌, ℕ, ◌/◌, ◌%◌, ◌<◌, ◌≤◌, ◌==◌, Bool, true, false, IsTrue, List, ◌++◌, slice_index, take, replicate, count_by}
use Rattle.std.specs.Int.{bit_at}
use Rattle.std.specs.List.{range_with_len}

-- a number of chunks, and the bitmap's bytes after its header
pub record Bitmap : Type 0 where
  pub chunks : ℕ
  pub bytes : List ℕ

-- bit i, the lowest of a byte first. Past the last byte no bit is set.
unfoldable pub is_set : List ℕ → ℕ → Bool
is_set bytes i = bit_at (slice_index bytes (i / 8)) (i % 8) == 1

-- the chunk is marked. Bits past the last chunk mark none.
abbrev pub IsMarked : Bitmap → ℕ → Type 0
IsMarked m c = (c < m.chunks) × IsTrue (is_set m.bytes c)

-- no bit from `from` on and below `end` is set
abbrev pub NoneSet : List ℕ → ℕ → ℕ → Type 0
NoneSet bytes from end = (i : ℕ) → from ≤ i → i < end → is_set bytes i ≡ false

-- the first bit from `from` on that is set, where it is below `end`
pub record IsNextSet (bytes : List ℕ) (from end i : ℕ) : Type 0 where
  pub not_below : from ≤ i
  pub below : i < end
  pub set_there : is_set bytes i ≡ true
  pub none_before : NoneSet bytes from i

-- how many of the first n bits are set
unfoldable pub count_set : List ℕ → ℕ → ℕ
count_set bytes n = count_by (is_set bytes) (range_with_len 0 n)

-- the least marked chunk that is not below `from`
pub record IsNextMarked (m : Bitmap) (from c : ℕ) : Type 0 where
  pub not_below : from ≤ c
  pub marked : IsMarked m c
  pub least : (d : ℕ) → from ≤ d → IsMarked m d → c ≤ d

-- n bytes, with zeros where the list ends
unfoldable pub padded : ℕ → List ℕ → List ℕ
padded n bytes = take n (bytes ++ replicate n 0)
