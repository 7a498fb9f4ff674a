-- Masks and their bits.
use Rattle.std.proofs.Common.{◌≡◌, ◌∙◌, ℕ, ◌<◌, ◌^◌, ◌-◌, bit_and, min, true, eqb, nat_lt, sym, arith, w32}
use Rattle.std.specs.Int.{bit_at, trailing_zeros}
use Rattle.std.proofs.lemmas.Bool.{eqb-true, eq-eqb, and_parts, and_from, lt-ltb}
use Rattle.std.proofs.lemmas.Nat.Bits.{bit_at-trailing_zeros, bit_at_and, bit_at-lt}
use Rattle.std.proofs.lemmas.Nat.{and_le_r}
use Rattle.md_cert.proofs.Bits.{has_below}
use Rattle.md_cert.specs.Sources.{has}

pub has_bit : (m t : ℕ) → has m t ≡ true → bit_at m t ≡ 1
unfolding has
has_bit m t it = eqb-true (bit_at m t) 1 (and_parts (nat_lt t 32) (eqb (bit_at m t) 1) it).1

pub bit_has : (m t : ℕ) → t < 32 → bit_at m t ≡ 1 → has m t ≡ true
unfolding has
bit_has m t lt it = and_from (nat_lt t 32) (eqb (bit_at m t) 1) (lt-ltb t 32 lt) (eq-eqb (bit_at m t) 1 it)

-- the lowest source of a mask that is not 0
pub low_source : (n : ℕ) → (n ≡ 0 → ⊥) → n < 2 ^ 32 → has n (trailing_zeros w32 n) ≡ true
low_source n some fits =
    let low = bit_at-trailing_zeros w32 n (omega arith) fits in
    bit_has n (trailing_zeros w32 n) low.0 low.1

-- a mask that is not 0 has a source
pub some_source : (n : ℕ) → (n ≡ 0 → ⊥) → n < 2 ^ 32 → (s : ℕ) × (has n s ≡ true)
some_source n some fits = (trailing_zeros w32 n, low_source n some fits)

min_left : (x y : ℕ) → x < 2 → y < 2 → min x y ≡ 1 → x ≡ 1
min_left x y p q e = omega arith

-- a source of what two masks share is one of the first
pub has_and : (a b t : ℕ) → has (bit_and a b) t ≡ true → has a t ≡ true
has_and a b t it =
    bit_has a t (has_below (bit_and a b) t it) (min_left (bit_at a t) (bit_at b t) (bit_at-lt a t) (bit_at-lt b t) (sym (bit_at_and a b t) ∙ has_bit (bit_and a b) t it))

-- a number without its lowest bit is less
pub and_less : (n : ℕ) → (n ≡ 0 → ⊥) → bit_and n (n - 1) < n
and_less n some = let le = and_le_r n (n - 1) in omega (arith, le, some)
