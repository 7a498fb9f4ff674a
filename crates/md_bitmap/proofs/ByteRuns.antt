-- Runs of bits, set and tested byte by byte.
use Rattle.std.proofs.Common.{◌≡◌, ℕ, zero, suc, ◌+◌, ◌-◌, ◌*◌, ◌/◌, ◌%◌, ◌^◌, ◌<◌, ◌≤◌, min, max, Bool, true, false, cond, eqb, nat_le, nat_lt, ◌&&◌, ◌||◌, bit_and, bit_or, set, List, length, slice_index, refl, sym, ap, ◌∙◌, inl, inr, arith}
use Rattle.std.proofs.Math.Nat.{pow-le-pow_right}
use Rattle.std.proofs.lemmas.Nat.{and_le_r, one_shl}
use Rattle.std.proofs.lemmas.Nat.Bits.{bit_at-lt, bit_at_and, bit_at_or, bit_at_mask_above, bit_at_mask_below, bit_at_mask_inside, same_from_bits_below}
use Rattle.std.proofs.lemmas.Bool.{and_left, and_right, cases_eq, cases_lt, eq-eqb, eqb-true, le-leb, le-ltb, lt-leb, lt-ltb}
use Rattle.std.proofs.lemmas.List.{length-set}
use Rattle.std.specs.Int.{bit_at}
use Rattle.md_bitmap.specs.Marks.{is_set}
use Rattle.md_bitmap.proofs.Bits.{is_set-bit, is_set-set_other, is_set-set_same}

-- ---- the part of a run in one byte
abbrev pub in_run : ℕ → ℕ → ℕ → Bool
in_run from end i = nat_le from i && nat_lt i end

run_inside : (from end i : ℕ) → from ≤ i → i < end → in_run from end i ≡ true
run_inside from end i low high = rw (le-leb from i low, lt-ltb i end high) refl

pub run_before : (from end i : ℕ) → i < from → in_run from end i ≡ false
run_before from end i h = and_left (nat_le from i) (nat_lt i end) (lt-leb from i h)

pub run_behind : (from end i : ℕ) → end ≤ i → in_run from end i ≡ false
run_behind from end i h = and_right (nat_le from i) (nat_lt i end) (le-ltb i end h)

one_bit : (b : Bool) (x y : ℕ) → b ≡ true → cond b x y ≡ x
one_bit b x y e = ap (λ (t : Bool). cond t x y) e

no_bit : (b : Bool) (x y : ℕ) → b ≡ false → cond b x y ≡ y
no_bit b x y e = ap (λ (t : Bool). cond t x y) e

mask_bit : (from end first low high j : ℕ) → j < 8 → low ≡ min (from - first) 8 → high ≡ max (min (end - first) 8) low → bit_at (2 ^ high - 2 ^ low) j ≡ cond (in_run from end (first + j)) 1 0
mask_bit from end first low high j h is_low is_high =
    elim (cases_lt j low) [
      | inl below ↦ bit_at_mask_below low high j below ∙ sym (no_bit (in_run from end (first + j)) 1 0 (run_before from end (first + j) (omega arith)))
      | inr from_low ↦ elim (cases_lt j high) [
        | inl inside ↦ bit_at_mask_inside low high j from_low inside ∙ sym (one_bit (in_run from end (first + j)) 1 0 (run_inside from end (first + j) (omega arith) (omega arith)))
        | inr above ↦ bit_at_mask_above low high j above ∙ sym (no_bit (in_run from end (first + j)) 1 0 (run_behind from end (first + j) (omega arith)))
      ]
    ]

shifted_one : (k : ℕ) → k ≤ 8 → 1 * 2 ^ k % 65536 ≡ 2 ^ k
shifted_one k h = one_shl k 16 (omega arith)

pub mask_fits : (low high : ℕ) → low ≤ high → high ≤ 8 → 1 * 2 ^ low % 65536 ≤ 1 * 2 ^ high % 65536
mask_fits low high h few = rw (shifted_one low (omega arith), shifted_one high few) (pow-le-pow_right (omega arith) h)

pub mask_byte : (low high : ℕ) → low ≤ high → high ≤ 8 → 1 * 2 ^ high % 65536 - 1 * 2 ^ low % 65536 ≤ 255
mask_byte low high h few =
    let least : 1 ≤ 2 ^ low = pow-le-pow_right {n = 2} (omega arith) {i = 0} {j = low} (omega arith) in
    let most : 2 ^ high ≤ 2 ^ 8 = pow-le-pow_right {n = 2} (omega arith) {i = high} {j = 8} few in
    rw (shifted_one low (omega arith), shifted_one high few) (omega (arith, least, most))

pub byte_of_run : (from end first low high j : ℕ) → j < 8 → low ≡ min (from - first) 8 → high ≡ max (min (end - first) 8) low → bit_at (1 * 2 ^ high % 65536 - 1 * 2 ^ low % 65536) j ≡ cond (in_run from end (first + j)) 1 0
byte_of_run from end first low high j h is_low is_high =
    let small : low ≤ 8 = omega arith in
    let few : high ≤ 8 = omega arith in
    rw (shifted_one low small, shifted_one high few) (mask_bit from end first low high j h is_low is_high)

-- ---- bits set in one byte
either_bit : (x y : ℕ) → x < 2 → y < 2 → eqb (max x y) 1 ≡ (eqb x 1 || eqb y 1)
either_bit zero zero hx hy = refl
either_bit zero (suc zero) hx hy = refl
either_bit (suc zero) zero hx hy = refl
either_bit (suc zero) (suc zero) hx hy = refl
either_bit (suc (suc x)) y hx hy = absurd (omega arith)
either_bit zero (suc (suc y)) hx hy = absurd (omega arith)
either_bit (suc zero) (suc (suc y)) hx hy = absurd (omega arith)

or_bit : (a b j : ℕ) → eqb (bit_at (bit_or a b) j) 1 ≡ (eqb (bit_at a j) 1 || eqb (bit_at b j) 1)
or_bit a b j = ap (λ (x : ℕ). eqb x 1) (bit_at_or a b j) ∙ either_bit (bit_at a j) (bit_at b j) (bit_at-lt a j) (bit_at-lt b j)

-- below byte k the bits of s are set too, and from there on nothing has changed
pub record AreSetBelow (s : ℕ → Bool) (old : List ℕ) (k : ℕ) (new : List ℕ) : Type 0 where
  pub size : length new ≡ length old
  pub below : (i : ℕ) → i / 8 < k → is_set new i ≡ (is_set old i || s i)
  pub above : (i : ℕ) → k ≤ i / 8 → is_set new i ≡ is_set old i

or_nothing : (a b : Bool) → b ≡ false → a ≡ (a || b)
or_nothing true b e = refl
or_nothing false b e = sym e

pub set_none : (s : ℕ → Bool) (old : List ℕ) (k : ℕ) → ((i : ℕ) → i / 8 < k → s i ≡ false) → AreSetBelow s old k old
set_none s old k none = record { size = refl; below = λ i h. or_nothing (is_set old i) (s i) (none i h); above = λ i h. refl }

pub set_byte : (s : ℕ → Bool) (old now : List ℕ) (k v : ℕ) → k < length now → ((i : ℕ) → i / 8 ≡ k → eqb (bit_at v (i % 8)) 1 ≡ s i) → AreSetBelow s old k now → AreSetBelow s old (k + 1) (set now k (bit_or (slice_index now k) v))
set_byte s old now k v inside bits before = record {
  size = length-set now k (bit_or (slice_index now k) v) ∙ before.size;
  below = λ i h. elim (cases_eq (i / 8) k) [
    | inl here ↦
        is_set-set_same now k (bit_or (slice_index now k) v) i here inside
        ∙ or_bit (slice_index now k) v (i % 8)
        ∙ ap (λ (b : Bool). b || eqb (bit_at v (i % 8)) 1) (sym (is_set-bit now k i here) ∙ before.above i (omega arith))
        ∙ ap (λ (b : Bool). is_set old i || b) (bits i here)
    | inr other ↦ is_set-set_other now k (bit_or (slice_index now k) v) i other ∙ before.below i (omega arith)
  ];
  above = λ i h.
      let other : i / 8 ≡ k → ⊥ = λ e. omega arith in
      is_set-set_other now k (bit_or (slice_index now k) v) i other ∙ before.above i (omega arith);
}

pub all_set : (s : ℕ → Bool) (old new : List ℕ) (k : ℕ) → AreSetBelow s old k new → ((i : ℕ) → k ≤ i / 8 → s i ≡ false) → (i : ℕ) → is_set new i ≡ (is_set old i || s i)
all_set s old new k are none i =
    elim (cases_lt (i / 8) k) [
      | inl below ↦ are.below i below
      | inr above ↦ are.above i above ∙ or_nothing (is_set old i) (s i) (none i above)
    ]

-- ---- the byte of a run, of another list, and of both
bit_of_cond : (b : Bool) (x : ℕ) → x ≡ cond b 1 0 → eqb x 1 ≡ b
bit_of_cond true x e = rw e refl
bit_of_cond false x e = rw e refl

pub run_bits : (from end k v : ℕ) → ((j : ℕ) → j < 8 → bit_at v j ≡ cond (in_run from end (8 * k + j)) 1 0) → (i : ℕ) → i / 8 ≡ k → eqb (bit_at v (i % 8)) 1 ≡ in_run from end i
run_bits from end k v is i here =
    let place : 8 * k + i % 8 ≡ i = omega arith in
    bit_of_cond (in_run from end i) (bit_at v (i % 8)) (rw place at (is (i % 8) (omega arith)))

-- bits below `end` of others
abbrev pub of_others : List ℕ → ℕ → ℕ → Bool
of_others others end i = nat_lt i end && is_set others i

pub whole_bits : (others : List ℕ) (end k : ℕ) → 8 * k + 8 ≤ end → (i : ℕ) → i / 8 ≡ k → eqb (bit_at (slice_index others k) (i % 8)) 1 ≡ of_others others end i
whole_bits others end k inside i here =
    sym (is_set-bit others k i here) ∙ ap (λ (b : Bool). b && is_set others i) (sym (lt-ltb i end (omega arith)))

both_bits : (x y : ℕ) → x < 2 → y < 2 → eqb (min x y) 1 ≡ (eqb y 1 && eqb x 1)
both_bits zero zero hx hy = refl
both_bits zero (suc zero) hx hy = refl
both_bits (suc zero) zero hx hy = refl
both_bits (suc zero) (suc zero) hx hy = refl
both_bits (suc (suc x)) y hx hy = absurd (omega arith)
both_bits zero (suc (suc y)) hx hy = absurd (omega arith)
both_bits (suc zero) (suc (suc y)) hx hy = absurd (omega arith)

from_zero : (end i : ℕ) → in_run 0 end i ≡ nat_lt i end
from_zero end i = ap (λ (b : Bool). b && nat_lt i end) (le-leb 0 i (omega arith))

pub rest_bits : (others : List ℕ) (end k run : ℕ) → ((j : ℕ) → j < 8 → bit_at run j ≡ cond (in_run 0 end (8 * k + j)) 1 0) → (i : ℕ) → i / 8 ≡ k → eqb (bit_at (bit_and (slice_index others k) run) (i % 8)) 1 ≡ of_others others end i
rest_bits others end k run is i here =
    let b = slice_index others k in
    ap (λ (x : ℕ). eqb x 1) (bit_at_and b run (i % 8))
    ∙ both_bits (bit_at b (i % 8)) (bit_at run (i % 8)) (bit_at-lt b (i % 8)) (bit_at-lt run (i % 8))
    ∙ ap (λ (t : Bool). t && eqb (bit_at b (i % 8)) 1) (run_bits 0 end k run is i here ∙ from_zero end i)
    ∙ ap (λ (t : Bool). nat_lt i end && t) (sym (is_set-bit others k i here))

-- ---- testing a run

-- a byte that has its part of the run
pub has_part : (xs : List ℕ) (from end k run : ℕ) → ((j : ℕ) → j < 8 → bit_at run j ≡ cond (in_run from end (8 * k + j)) 1 0) → bit_and (slice_index xs k) run ≡ run → (i : ℕ) → i / 8 ≡ k → from ≤ i → i < end → is_set xs i ≡ true
has_part xs from end k run is whole i here low high =
    let b = slice_index xs k in
    let there : bit_at run (i % 8) ≡ 1 = eqb-true (bit_at run (i % 8)) 1 (run_bits from end k run is i here ∙ run_inside from end i low high) in
    let both : min (bit_at b (i % 8)) (bit_at run (i % 8)) ≡ bit_at run (i % 8) = sym (bit_at_and b run (i % 8)) ∙ ap (λ (x : ℕ). bit_at x (i % 8)) whole in
    let one : bit_at b (i % 8) ≡ 1 = omega (arith, there, both, bit_at-lt b (i % 8)) in
    is_set-bit xs k i here ∙ eq-eqb (bit_at b (i % 8)) 1 one

-- where all of the run is set, each byte has its part
pub part_of_all : (xs : List ℕ) (from end k run : ℕ) → slice_index xs k < 256 → run < 256 → ((j : ℕ) → j < 8 → bit_at run j ≡ cond (in_run from end (8 * k + j)) 1 0) → ((i : ℕ) → from ≤ i → i < end → is_set xs i ≡ true) → bit_and (slice_index xs k) run ≡ run
part_of_all xs from end k run small fits is all =
    let b = slice_index xs k in
    same_from_bits_below 8 (bit_and b run) run (omega (arith, and_le_r b run)) fits (λ j h.
    bit_at_and b run j ∙ bit j h)
  where
    bit : (j : ℕ) → j < 8 → min (bit_at (slice_index xs k) j) (bit_at run j) ≡ bit_at run j
    bit j h =
        let b = slice_index xs k in
        elim (cases_lt (8 * k + j) from) [
          | inl before ↦
              let none : bit_at run j ≡ 0 = is j h ∙ no_bit (in_run from end (8 * k + j)) 1 0 (run_before from end (8 * k + j) before) in
              omega (arith, none)
          | inr behind ↦ elim (cases_lt (8 * k + j) end) [
            | inl inside ↦
                let place : (8 * k + j) / 8 ≡ k = omega arith in
                let at : (8 * k + j) % 8 ≡ j = omega arith in
                let set_there : eqb (bit_at b ((8 * k + j) % 8)) 1 ≡ true = sym (is_set-bit xs k (8 * k + j) place) ∙ all (8 * k + j) behind inside in
                let one : bit_at b j ≡ 1 = eqb-true (bit_at b j) 1 (ap (λ (n : ℕ). eqb (bit_at b n) 1) (sym at) ∙ set_there) in
                omega (arith, one, bit_at-lt run j)
            | inr past ↦
                let none : bit_at run j ≡ 0 = is j h ∙ no_bit (in_run from end (8 * k + j)) 1 0 (run_behind from end (8 * k + j) past) in
                omega (arith, none)
          ]
        ]
