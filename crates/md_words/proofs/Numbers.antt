-- Numbers that a text says.
use Rattle.std.proofs.Common.{◌≡◌, ◌<◌, ◌^◌, ◌&&◌, ℕ, Bool, true, false, cond, refl, sym, List, [], ◌∷◌, length, Result, Ok, Err, true≢false, ◌∙◌, nat_lt, lt-ltb, ltb-true}
use Rattle.std.specs.List.{list_all}
use Rattle.std.specs.Result.{result_unwrap_or}
use Rattle.std.specs.Char.{digit_value}
use Rattle.std.specs.Str.Parse.{AllDigits, IsNumeral, ParsesUnsigned, digits_value, without_leading_plus}
use Rattle.std.proofs.lemmas.Bool.{and_parts}
use Rattle.md_words.specs.Numbers.{fits_bits, is_number, number_or_zero}

digits_pass : (ds : List ℕ) → AllDigits 10 ds → list_all (λ d. nat_lt (digit_value d) 10) ds ≡ true
digits_pass [] h = refl
digits_pass (d ∷ ds) h = rw (lt-ltb (digit_value d) 10 h.0) (digits_pass ds h.1)

digits_from : (ds : List ℕ) → list_all (λ d. nat_lt (digit_value d) 10) ds ≡ true → AllDigits 10 ds
digits_from [] e = tt
digits_from (d ∷ ds) e =
    let parts = and_parts _ _ e in
    (ltb-true _ _ parts.0, digits_from ds parts.1)

passes : (most : ℕ) (ds : List ℕ) → IsNumeral 10 ds → digits_value 10 ds < most → (is_number ds && nat_lt (digits_value 10 ds) most) ≡ true
passes most ds h less = rw (lt-ltb 0 (length ds) h.0, digits_pass ds h.1, lt-ltb (digits_value 10 ds) most less) refl

chosen : (b : Bool) (n : ℕ) → b ≡ true → n ≡ cond b n 0
chosen true n e = refl
chosen false n e = absurd (true≢false (sym e))

refused : (b : Bool) (n : ℕ) → (b ≡ true → ⊥) → 0 ≡ cond b n 0
refused true n wrong = absurd (wrong refl)
refused false n wrong = refl

-- what a parse of a number of so many bits gives
pub number_read : {E : Type 0} (bits : ℕ) (text : List ℕ) (r : Result ℕ E) → ParsesUnsigned bits 10 text r → result_unwrap_or r 0 ≡ number_or_zero bits text
number_read bits text (Ok n) h =
    let ds = without_leading_plus text in
    h.1 ∙ chosen (is_number ds && nat_lt (digits_value 10 ds) (2 ^ bits)) (digits_value 10 ds) (passes (2 ^ bits) ds h.0.0 h.0.1)
number_read bits text (Err e) h =
    let ds = without_leading_plus text in
    refused (is_number ds && nat_lt (digits_value 10 ds) (2 ^ bits)) (digits_value 10 ds) (λ t.
    let outer = and_parts (is_number ds) _ t in
    let inner = and_parts (nat_lt 0 (length ds)) _ outer.0 in
    h ((ltb-true _ _ inner.0, digits_from ds inner.1), ltb-true _ _ outer.1))

pub not_true : (b : Bool) → (b ≡ true → ⊥) → b ≡ false
not_true true wrong = absurd (wrong refl)
not_true false wrong = refl

-- a text is a number of so many bits where it parses as one, and only there
pub is_number_parsed : {E : Type 0} (bits : ℕ) (text : List ℕ) (n : ℕ) (r : Result ℕ E) → r ≡ Ok n → ParsesUnsigned bits 10 text r → fits_bits bits text ≡ true
is_number_parsed bits text n (Ok m) is h = passes (2 ^ bits) (without_leading_plus text) h.0.0 h.0.1
is_number_parsed bits text n (Err e) is h = absurd cc

pub is_no_number_refused : {E : Type 0} (bits : ℕ) (text : List ℕ) (e : E) (r : Result ℕ E) → r ≡ Err e → ParsesUnsigned bits 10 text r → fits_bits bits text ≡ false
is_no_number_refused bits text e (Ok n) is h = absurd cc
is_no_number_refused bits text e (Err x) is h =
    let ds = without_leading_plus text in
    not_true (fits_bits bits text) (λ t.
    let outer = and_parts (is_number ds) _ t in
    let inner = and_parts (nat_lt 0 (length ds)) _ outer.0 in
    h ((ltb-true _ _ inner.0, digits_from ds inner.1), ltb-true _ _ outer.1))
