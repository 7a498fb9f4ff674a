-- Numbers and bytes by their place.
use Rattle.std.proofs.Common.{◌≡◌, ℕ, zero, suc, ◌+◌, ◌≤◌, List, take, drop, slice_index, refl, ap, ◌∙◌, arith}
use Rattle.std.proofs.lemmas.List.{get_or-take, get_or-drop}
use Rattle.byteorder.specs.Endian.{little_from}
use Rattle.md_format.specs.Fields.{number_at}

-- a number read from place j of the m bytes after place i
pub little_from-part : (n i j m : ℕ) (xs : List ℕ) → j + n ≤ m → little_from j n (take m (drop i xs)) ≡ little_from (i + j) n xs
little_from-part zero i j m xs h = refl
little_from-part (suc n) i j m xs h =
    let byte : slice_index (take m (drop i xs)) j ≡ slice_index xs (i + j) = get_or-take m (drop i xs) j 0 (omega arith) ∙ get_or-drop i xs j 0 in
    let rest = little_from-part n i (suc j) m xs (omega arith) in
    let next : i + suc j ≡ suc (i + j) = omega arith in
    rw (byte, rest, next) refl

-- what a reader that is handed the bytes after a place reads
pub number_at-part : (n i m : ℕ) (xs : List ℕ) → n ≤ m → little_from 0 n (take m (drop i xs)) ≡ number_at n i xs
unfolding number_at
number_at-part n i m xs h =
    let there : i + 0 ≡ i = omega arith in
    little_from-part n i 0 m xs (omega arith) ∙ ap (λ (k : ℕ). little_from k n xs) there
