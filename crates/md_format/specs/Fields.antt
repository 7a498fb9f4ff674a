-- Fields of a block of bytes, by their place. All numbers are little-endian, as in md_p.h.
use Rattle.std.specs.Prelude.{ℕ, List, take, drop}
use Rattle.byteorder.specs.Endian.{little_from}

-- the number in the n bytes from place i, the lowest first
unfoldable pub number_at : ℕ → ℕ → List ℕ → ℕ
number_at n i bytes = little_from i n bytes

-- the n bytes from place i
unfoldable pub bytes_at : ℕ → ℕ → List ℕ → List ℕ
bytes_at n i bytes = take n (drop i bytes)
