-- A list with zeros after it.
use Rattle.std.proofs.Common.{◌≡◌, ℕ, zero, suc, ◌+◌, ◌-◌, ◌<◌, min, List, ◌++◌, length, slice_index, take, drop, replicate, append_assoc, refl, sym, ap, ◌∙◌, inl, inr, arith}
use Rattle.std.proofs.Math.Seq.{take-append-add, take-length}
use Rattle.std.proofs.lemmas.Bool.{cases_lt}
use Rattle.std.proofs.lemmas.List.{append-nil, drop-drop, drop-replicate, drop_at, drop_min, get_or-append-add, get_or_append_left, get_or-drop, get_or_past, get_or-replicate, get_or-take, length-append, length-replicate, length-take, take-append-le, take-replicate, take_rest}
use Rattle.byteorder.specs.Endian.{little_from}
use Rattle.md_format.specs.Fields.{number_at}
use Rattle.md_bitmap.specs.Marks.{padded}

pub length-padded : (n : ℕ) (xs : List ℕ) → length (padded n xs) ≡ n
unfolding padded
length-padded n xs = omega (arith, length-take n (xs ++ replicate n 0), length-append xs (replicate n 0), length-replicate {A = ℕ} n 0)

-- as much of the list as there is, and zeros
pub padded_parts : (n m : ℕ) (xs : List ℕ) → m ≡ min (length xs) n → padded n xs ≡ take m xs ++ replicate (n - m) 0
unfolding padded
padded_parts n m xs e =
    elim (cases_lt (length xs) n) [
      | inl short ↦
          let all : m ≡ length xs = omega arith in
          let split : n ≡ length xs + (n - length xs) = omega arith in
          let front = ap (λ (k : ℕ). take k (xs ++ replicate n 0)) split in
          rw (all, take-length xs) (front ∙ take-append-add xs (replicate n 0) (n - length xs) ∙ ap (λ (ys : List ℕ). xs ++ ys) (take-replicate (n - length xs) n 0 (omega arith)))
      | inr long ↦
          let all : m ≡ n = omega arith in
          let none : n - n ≡ 0 = omega arith in
          rw (all, none, append-nil (take n xs)) (take-append-le n xs (replicate n 0) long)
    ]

pub zero_at : (n i : ℕ) → slice_index (replicate n 0) i ≡ 0
zero_at n i =
    elim (cases_lt i n) [
      | inl inside ↦ get_or-replicate n i 0 0 inside
      | inr past ↦ get_or_past (replicate n 0) i 0 (omega (arith, length-replicate {A = ℕ} n 0))
    ]

-- zeros after a list read as its end does
zeros_behind : (xs : List ℕ) (n i : ℕ) → slice_index (xs ++ replicate n 0) i ≡ slice_index xs i
zeros_behind xs n i =
    elim (cases_lt i (length xs)) [
      | inl inside ↦ get_or_append_left xs (replicate n 0) 0 i inside
      | inr past ↦
          let e : i ≡ length xs + (i - length xs) = omega arith in
          let front = ap (λ (k : ℕ). slice_index (xs ++ replicate n 0) k) e in
          front ∙ get_or-append-add xs (replicate n 0) (i - length xs) 0 ∙ zero_at n (i - length xs) ∙ sym (get_or_past xs i 0 past)
    ]

pub slice_index-padded : (n : ℕ) (xs : List ℕ) (i : ℕ) → i < n → slice_index (padded n xs) i ≡ slice_index xs i
unfolding padded
slice_index-padded n xs i h = get_or-take n (xs ++ replicate n 0) i 0 h ∙ zeros_behind xs n i

little_from-same : (n i j : ℕ) (xs ys : List ℕ) → ((k : ℕ) → k < n → slice_index xs (i + k) ≡ slice_index ys (j + k)) → little_from i n xs ≡ little_from j n ys
little_from-same zero i j xs ys same = refl
little_from-same (suc n) i j xs ys same =
    let i_is : i + 0 ≡ i = omega arith in
    let j_is : j + 0 ≡ j = omega arith in
    let byte : slice_index xs i ≡ slice_index ys j = rw (i_is, j_is) at (same 0 (omega arith)) in
    let rest = little_from-same n (suc i) (suc j) xs ys (λ k h.
    let i_next : i + suc k ≡ suc i + k = omega arith in
    let j_next : j + suc k ≡ suc j + k = omega arith in
    rw (i_next, j_next) at (same (suc k) (omega arith))) in
    rw (byte, rest) refl

-- a number at the list's end
pub number_at-padded : (n at : ℕ) (xs : List ℕ) → number_at n 0 (padded n (drop at xs)) ≡ number_at n at xs
unfolding number_at
number_at-padded n at xs =
    little_from-same n 0 at (padded n (drop at xs)) xs (λ k h.
    let e : 0 + k ≡ k = omega arith in
    rw e (slice_index-padded n (drop at xs) k h ∙ get_or-drop at xs k 0))

-- what is after a front of zeros after a copy
pub copied_parts : (out bytes : List ℕ) (behind at from count : ℕ) → drop behind out ≡ replicate (length out - behind) 0 → from ≡ min at (length bytes) →
    count ≡ min (length (take (length bytes - from) (drop from bytes))) (length out - behind) →
    take behind out ++ take count (take (length bytes - from) (drop from bytes)) ++ drop (behind + length (take count (take (length bytes - from) (drop from bytes)))) out
    ≡ take behind out ++ padded (length out - behind) (drop at bytes)
copied_parts out bytes behind at from count zeros from_is count_is =
    let rest = drop at bytes in
    let all : take (length bytes - from) (drop from bytes) ≡ rest =
    rw from_is (take_rest bytes (min at (length bytes)) ∙ drop_min at bytes) in
    let count_of : count ≡ min (length rest) (length out - behind) = rw all at count_is in
    let long : length (take count rest) ≡ count = omega (arith, length-take count rest) in
    let tail : drop (behind + count) out ≡ replicate (length out - behind - count) 0 =
    sym (drop-drop count behind out) ∙ ap (drop count) zeros ∙ drop-replicate count (length out - behind) 0 in
    rw (all, long, tail, append_assoc) (ap (λ (xs : List ℕ). take behind out ++ xs) (sym (padded_parts (length out - behind) count rest count_of)))

-- a front written over zeros
pub front_and_zeros : (n m : ℕ) (front out : List ℕ) → length front ≡ n → out ≡ take 0 (replicate m 0) ++ front ++ drop (0 + length front) (replicate m 0) →
    (take n out ≡ front) × (drop n out ≡ replicate (m - n) 0)
front_and_zeros n m front out long e =
    let past : 0 + length front ≡ n = omega arith in
    let rest : drop n (replicate {A = ℕ} m 0) ≡ replicate (m - n) 0 = drop-replicate n m 0 in
    let parts : out ≡ front ++ replicate (m - n) 0 = rw (past, rest) at e in
    let whole : take n front ≡ front = rw (← long) (take-length front) in
    (rw parts (take-append-le n front (replicate (m - n) 0) (omega arith) ∙ whole), rw parts (drop_at front (replicate (m - n) 0) n long))
