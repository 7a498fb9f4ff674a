-- What is read at a place of fields that were written one after the other.
use Rattle.std.proofs.Common.{◌≡◌, ℕ, zero, suc, ◌+◌, ◌^◌, ◌<◌, ◌≤◌, List, [], ◌∷◌, ◌++◌, length, take, drop, slice_index, refl, ap, ◌∙◌, arith, append_assoc}
use Rattle.std.proofs.Math.Seq.{drop-append-add, take-append_seam}
use Rattle.std.proofs.lemmas.List.{drop-append-le, get_or_append_left, length-drop, take-append-le}
use Rattle.byteorder.specs.Endian.{little_bytes, little_from}
use Rattle.byteorder.specs.Numbers.{little_number-reads_back, little_from-cons}
use Rattle.md_format.specs.Fields.{number_at, bytes_at}

little_from-behind : (n j : ℕ) (front rest : List ℕ) → little_from (length front + j) n (front ++ rest) ≡ little_from j n rest
little_from-behind n j [] rest = let e : length {A = ℕ} [] + j ≡ j = omega arith in rw e refl
little_from-behind n j (x ∷ front) rest =
    let e : length (x ∷ front) + j ≡ suc (length front + j) = omega arith in
    rw e (little_from-cons (length front + j) n x (front ++ rest) ∙ little_from-behind n j front rest)

-- a number after a front
pub number_at-behind : (n i j : ℕ) (front rest : List ℕ) → i ≡ length front + j → number_at n i (front ++ rest) ≡ number_at n j rest
unfolding number_at
number_at-behind n i j front rest e = rw e (little_from-behind n j front rest)

little_from-within : (n i : ℕ) (front rest : List ℕ) → i + n ≤ length front → little_from i n (front ++ rest) ≡ little_from i n front
little_from-within zero i front rest h = refl
little_from-within (suc n) i front rest h =
    let byte : slice_index (front ++ rest) i ≡ slice_index front i = get_or_append_left front rest 0 i (omega arith) in
    let more = little_from-within n (suc i) front rest (omega arith) in
    rw (byte, more) refl

-- a number within a front
pub number_at-within : (n i : ℕ) (front rest : List ℕ) → i + n ≤ length front → number_at n i (front ++ rest) ≡ number_at n i front
unfolding number_at
number_at-within n i front rest h = little_from-within n i front rest h

-- a number reads back
pub number_at-little_bytes : (n x : ℕ) (rest : List ℕ) → x < 256 ^ n → number_at n 0 (little_bytes n x ++ rest) ≡ x
unfolding number_at
number_at-little_bytes n x rest h = little_number-reads_back n x rest h

-- bytes after a front
pub bytes_at-behind : (n i j : ℕ) (front rest : List ℕ) → i ≡ length front + j → bytes_at n i (front ++ rest) ≡ bytes_at n j rest
unfolding bytes_at
bytes_at-behind n i j front rest e = rw e (ap (take n) (drop-append-add front rest j))

-- bytes within a front
pub bytes_at-within : (n i : ℕ) (front rest : List ℕ) → i + n ≤ length front → bytes_at n i (front ++ rest) ≡ bytes_at n i front
unfolding bytes_at
bytes_at-within n i front rest h =
    ap (take n) (drop-append-le i front rest (omega arith)) ∙ take-append-le n (drop i front) rest (omega (arith, length-drop i front))

-- a field of bytes reads back
pub bytes_at-field : (n : ℕ) (field rest : List ℕ) → length field ≡ n → bytes_at n 0 (field ++ rest) ≡ field
unfolding bytes_at
bytes_at-field n field rest e = rw (← e) (take-append_seam field rest)

-- fields after a front, one by one and as a group
pub regroup_6 : (p a b c d e f : List ℕ) → p ++ a ++ b ++ c ++ d ++ e ++ f ≡ p ++ (a ++ b ++ c ++ d ++ e ++ f)
regroup_6 p a b c d e f = simp append_assoc
