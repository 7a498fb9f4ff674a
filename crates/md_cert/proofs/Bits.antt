-- Masks that take in a source or a whole mask.
use Rattle.std.proofs.Common.{◌≡◌, ◌≢◌, ◌∙◌, ℕ, ◌*◌, ◌^◌, ◌%◌, ◌<◌, zero, suc, Bool, true, false, ◌&&◌, ◌||◌, eqb, nat_lt, refl, ap, arith, bit_or, max, w32}
use Rattle.std.specs.Int.{bit_at}
use Rattle.std.proofs.lemmas.Bool.{and_from, and_parts, lt-ltb, ltb-true}
use Rattle.std.proofs.lemmas.Nat.Bits.{bit_at-zero, bit_at_or, bit_at-lt, bit_at_set_same, bit_at_set_other}
use Rattle.md_cert.specs.Sources.{has}

none : (b : Bool) (n : ℕ) → n ≡ 0 → (b && eqb n 1) ≡ false
none true n e = ap (λ m. eqb m 1) e
none false n e = refl

pub has_zero : (s : ℕ) → has 0 s ≡ false
unfolding has
has_zero s = none (nat_lt s 32) (bit_at 0 s) (bit_at-zero s)

max_bits : (x y : ℕ) → x < 2 → y < 2 → eqb (max x y) 1 ≡ (eqb x 1 || eqb y 1)
max_bits zero zero p q = refl
max_bits zero (suc zero) p q = refl
max_bits zero (suc (suc y)) p q = absurd (omega arith)
max_bits (suc zero) zero p q = refl
max_bits (suc zero) (suc zero) p q = refl
max_bits (suc zero) (suc (suc y)) p q = absurd (omega arith)
max_bits (suc (suc x)) y p q = absurd (omega arith)

and_or : (t p q : Bool) → (t && (p || q)) ≡ ((t && p) || (t && q))
and_or true p q = refl
and_or false p q = refl

pub has_or : (a b s : ℕ) → has (bit_or a b) s ≡ (has a s || has b s)
unfolding has
has_or a b s =
    ap (λ n. nat_lt s 32 && eqb n 1) (bit_at_or a b s)
    ∙ ap (λ (x : Bool). nat_lt s 32 && x) (max_bits (bit_at a s) (bit_at b s) (bit_at-lt a s) (bit_at-lt b s))
    ∙ and_or (nat_lt s 32) (eqb (bit_at a s) 1) (eqb (bit_at b s) 1)

pub has_set_same : (n s : ℕ) → s < 32 → has (bit_or n (1 * 2 ^ s % 2 ^ 32)) s ≡ true
unfolding has
has_set_same n s within =
    and_from (nat_lt s 32) (eqb (bit_at (bit_or n (1 * 2 ^ s % 2 ^ 32)) s) 1) (lt-ltb s 32 within) (ap (λ m. eqb m 1) (bit_at_set_same w32 n s within))

pub has_set_other : (n s t : ℕ) → s < 32 → t ≢ s → has (bit_or n (1 * 2 ^ s % 2 ^ 32)) t ≡ has n t
unfolding has
has_set_other n s t within other = ap (λ m. nat_lt t 32 && eqb m 1) (bit_at_set_other w32 n s within t other)

-- sources are below 32
pub has_below : (mask s : ℕ) → has mask s ≡ true → s < 32
unfolding has
has_below mask s yes_it = ltb-true s 32 (and_parts (nat_lt s 32) (eqb (bit_at mask s) 1) yes_it).0
