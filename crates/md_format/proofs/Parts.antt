-- What is read at the places of parts that stand one after the other.
use Rattle.std.proofs.Common.{◌≡◌, ℕ, zero, suc, ◌+◌, ◌<◌, ◌≤◌, List, [], ◌∷◌, length, take, get_or, map, sum, sum_by, refl, sym, ap, ◌∙◌, arith}
use Rattle.std.specs.List.{concat}
use Rattle.std.proofs.lemmas.List.{get_or-map, take-map}
use Rattle.std.proofs.lemmas.List.Sums.{sum-map, sum_by-cons}
use Rattle.byteorder.specs.Endian.{little_from}
use Rattle.md_format.specs.Fields.{number_at, bytes_at}
use Rattle.md_format.proofs.Places.{little_from-part}
use Rattle.md_format.proofs.Written.{bytes_at-behind, bytes_at-field}

-- the k-th part stands after those before it
part_there : (parts : List (List ℕ)) (k : ℕ) → k < length parts → bytes_at (length (get_or parts k [])) (sum_by length (take k parts)) (concat parts) ≡ get_or parts k []
part_there [] k h = absurd (omega (arith, h))
part_there (part ∷ parts) zero h = bytes_at-field (length part) part (concat parts) refl
part_there (part ∷ parts) (suc k) h =
    let n = length (get_or parts k []) in
    let before = sum_by length (take k parts) in
    bytes_at-behind n (sum_by length (part ∷ take k parts)) before part (concat parts) (sum_by-cons length part (take k parts))
    ∙ part_there parts k (omega (arith, h))

pub part_at : (parts : List (List ℕ)) (lengths : List ℕ) (k : ℕ) → map length parts ≡ lengths → k < length parts → bytes_at (get_or lengths k 0) (sum (take k lengths)) (concat parts) ≡ get_or parts k []
part_at parts lengths k e h =
    let long : get_or lengths k 0 ≡ length (get_or parts k []) = rw (← e) (get_or-map length parts k [] 0 h) in
    let before : sum (take k lengths) ≡ sum_by length (take k parts) = rw (← e, take-map length k parts) (sum-map length (take k parts)) in
    rw (long, before) (part_there parts k h)

-- a number of a part
pub number_in : (n i m j : ℕ) (bytes part : List ℕ) → bytes_at m i bytes ≡ part → j + n ≤ m → number_at n (i + j) bytes ≡ number_at n j part
unfolding number_at bytes_at
number_in n i m j bytes part e within = sym (little_from-part n i j m bytes within) ∙ ap (λ (xs : List ℕ). little_from j n xs) e

-- a field of a part
pub field : (n i m j x : ℕ) (bytes part : List ℕ) → bytes_at m i bytes ≡ part → j + n ≤ m → number_at n j part ≡ x → x ≡ number_at n (i + j) bytes
field n i m j x bytes part e within reads = sym (number_in n i m j bytes part e within ∙ reads)
