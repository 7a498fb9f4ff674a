-- Lemmas on numerals.
use Rattle.std.proofs.Common.{◌≡◌, ℕ, suc, zero, ◌<◌, ◌≤◌, ◌^◌, ◌&&◌, Bool, true, false, ltb, eqb, nat_lt, List, [], ◌∷◌, length, get_or, Some, None, Result, Ok, Err, refl, ap, sym, ◌∙◌, arith, ⊎_elim}
use Rattle.std.specs.List.{list_all}
use Rattle.std.specs.Char.{digit_value}
use Rattle.std.specs.Str.{IsUtf8}
use Rattle.std.specs.Str.Parse.{AllDigits, IsNumeral, digits_value, ParsesUnsigned}
use Rattle.std.specs.Result.{OkIff, result_ok}
use Rattle.std.proofs.lemmas.Bool.{and_parts, and_from, lt-ltb, le-ltb, cond-true, cond-false, false_from_ne_true, cases_lt}
use Rattle.std.proofs.lemmas.Str.{IsUtf8-from_ascii}
use Rattle.std.proofs.lemmas.Str.Parse.{without_leading_plus_none}
use borrow.Author.Tests.{ltb-true}
use Rattle.md_files.specs.Masks.Maps.Numbers.{is_numeral, numeral}

abbrev is_digit : ℕ → ℕ → Bool
is_digit radix c = nat_lt (digit_value c) radix

all_digits : (radix : ℕ) (ds : List ℕ) → list_all (is_digit radix) ds ≡ true → AllDigits radix ds
all_digits radix [] h = tt
all_digits radix (c ∷ cs) h =
    let both = and_parts (is_digit radix c) (list_all (is_digit radix) cs) h in
    (ltb-true (digit_value c) radix both.0, all_digits radix cs both.1)

list_digits : (radix : ℕ) (ds : List ℕ) → AllDigits radix ds → list_all (is_digit radix) ds ≡ true
list_digits radix [] h = refl
list_digits radix (c ∷ cs) h = and_from (is_digit radix c) (list_all (is_digit radix) cs) (lt-ltb (digit_value c) radix h.0) (list_digits radix cs h.1)

numeral_of : (radix : ℕ) (ds : List ℕ) → is_numeral radix ds ≡ true → IsNumeral radix ds
numeral_of radix ds h =
    let both = and_parts (ltb 0 (length ds)) (list_all (is_digit radix) ds) h in
    (ltb-true 0 (length ds) both.0, all_digits radix ds both.1)

numeral_test : (radix : ℕ) (ds : List ℕ) → IsNumeral radix ds → is_numeral radix ds ≡ true
numeral_test radix ds h = and_from (ltb 0 (length ds)) (list_all (is_digit radix) ds) (lt-ltb 0 (length ds) h.0) (list_digits radix ds h.1)

-- what is read
pub reads : (radix : ℕ) (ds : List ℕ) → IsNumeral radix ds → digits_value radix ds < 2 ^ 64 → numeral radix ds ≡ Some (digits_value radix ds)
unfolding numeral
reads radix ds is small =
    cond-true (is_numeral radix ds && ltb (digits_value radix ds) (2 ^ 64)) (Some (digits_value radix ds)) None
    (and_from (is_numeral radix ds) (ltb (digits_value radix ds) (2 ^ 64)) (numeral_test radix ds is) (lt-ltb (digits_value radix ds) (2 ^ 64) small))

-- what is refused
refuses : (radix : ℕ) (ds : List ℕ) → (IsNumeral radix ds × (digits_value radix ds < 2 ^ 64) → ⊥) → numeral radix ds ≡ None
unfolding numeral
refuses radix ds wrong =
    cond-false (is_numeral radix ds && ltb (digits_value radix ds) (2 ^ 64)) (Some (digits_value radix ds)) None
    (false_from_ne_true (is_numeral radix ds && ltb (digits_value radix ds) (2 ^ 64))
    (λ h. let both = and_parts (is_numeral radix ds) (ltb (digits_value radix ds) (2 ^ 64)) h in
    wrong (numeral_of radix ds both.0, ltb-true (digits_value radix ds) (2 ^ 64) both.1)))

from_iff : {E : Type 0} (radix : ℕ) (ds : List ℕ) (r : Result ℕ E) → OkIff r (IsNumeral radix ds × (digits_value radix ds < 2 ^ 64)) (digits_value radix ds) → result_ok r ≡ numeral radix ds
from_iff radix ds (Ok x) h = ap Some h.1 ∙ sym (reads radix ds h.0.0 h.0.1)
from_iff radix ds (Err e) h = sym (refuses radix ds h)

-- what std reads of digits without a sign
pub by_parse : {E : Type 0} (radix : ℕ) (ds text : List ℕ) (r : Result ℕ E) → text ≡ ds → (eqb (get_or ds 0 0) 43 ≡ true → ⊥) → ParsesUnsigned 64 radix text r → result_ok r ≡ numeral radix ds
by_parse radix ds text r same plain parses =
    let here = rw same at parses in
    from_iff radix ds r (rw (without_leading_plus_none ds (λ is. plain (ap (λ i. eqb i 43) is))) at here)

-- a sign is no digit
plus_none : (radix : ℕ) (ds : List ℕ) → radix ≤ 36 → get_or ds 0 0 ≡ 43 → AllDigits radix ds → 0 < length ds → ⊥
plus_none radix [] low is h long = omega arith
plus_none radix (c ∷ cs) low is h long = let value : digit_value c ≡ 36 = ap digit_value is in omega (arith, value, h.0)

pub refuses_plus : (radix : ℕ) (ds : List ℕ) → radix ≤ 36 → get_or ds 0 0 ≡ 43 → numeral radix ds ≡ None
refuses_plus radix ds low is = refuses radix ds (λ p. plus_none radix ds low is p.0.1 p.0.0)

-- digits are ASCII
past_letters : (c : ℕ) → 123 ≤ c → digit_value c ≡ 36
past_letters c above =
    let a : ltb c 48 ≡ false = le-ltb c 48 (omega arith) in
    let b : ltb c 58 ≡ false = le-ltb c 58 (omega arith) in
    let d : ltb c 65 ≡ false = le-ltb c 65 (omega arith) in
    let e : ltb c 91 ≡ false = le-ltb c 91 (omega arith) in
    let f : ltb c 97 ≡ false = le-ltb c 97 (omega arith) in
    let g : ltb c 123 ≡ false = le-ltb c 123 above in
    rw (a, b, d, e, f, g) refl

digit_ascii : (c : ℕ) → digit_value c < 36 → c < 128
digit_ascii c small =
    ⊎_elim (λ below. omega (arith, below)) (λ above. absurd (omega (arith, small, past_letters c above))) (cases_lt c 123)

ascii_at : (radix : ℕ) (ds : List ℕ) (i : ℕ) → radix ≤ 36 → AllDigits radix ds → get_or ds i 0 < 128
ascii_at radix [] i low h = omega arith
ascii_at radix (c ∷ cs) zero low h = digit_ascii c (omega (arith, h.0))
ascii_at radix (c ∷ cs) (suc i) low h = ascii_at radix cs i low h.1

pub refuses_binary : (radix : ℕ) (ds : List ℕ) → radix ≤ 36 → (IsUtf8 ds → ⊥) → numeral radix ds ≡ None
refuses_binary radix ds low other = refuses radix ds (λ p. other (IsUtf8-from_ascii ds (λ i. ascii_at radix ds i low p.0.1)))
