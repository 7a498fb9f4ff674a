-- The letter that ends a text, and the number before it.
use Rattle.std.proofs.Common.{◌≡◌, ◌≢◌, ◌∙◌, ◌<◌, ◌-◌, ◌+◌, ◌++◌, ◌&&◌, arith, eq-eqb, eqb-true, ℕ, Bool, true, false, cond, List, [], ◌∷◌, length, take, Option, Some, None, Result, Ok, Err, ◌*◌, ◌^◌, nat_lt, refl, sym, ap, subst, slice_index, lt-ltb, ltb-true, option_map, length-append}
use Rattle.std.specs.Borrow.{Bor}
use Rattle.std.specs.Option.{MatchOption, SomeIff}
use Rattle.std.proofs.lemmas.Bool.{and_parts}
use Rattle.std.proofs.lemmas.List.{take_more}
use Rattle.std.proofs.Math.Seq.{get_or-append_seam, take-append_seam, take-length}
use Rattle.std.specs.Result.{result_unwrap_or}
use Rattle.std.specs.Str.Parse.{ParsesUnsigned}
use Rattle.md_words.specs.Numbers.{before, ends_in, total_of, number_or_zero}
use Rattle.md_words.proofs.Numbers.{is_no_number_refused, is_number_parsed, not_true, number_read}

taken : {X : Type 0} (b : Bool) (x y : X) → b ≡ true → x ≡ cond b x y
taken true x y e = refl
taken false x y e = absurd cc

left : {X : Type 0} (b : Bool) (x y : X) → b ≡ false → y ≡ cond b x y
left true x y e = absurd cc
left false x y e = refl

-- what stands before it, of a text that is that and the letter
pub before_is : (letter : ℕ) (text front : List ℕ) → text ≡ front ++ (letter ∷ []) → Some front ≡ before letter text
before_is letter text front is =
    let whole = front ++ (letter ∷ []) in
    let n = length front in
    let last : length whole - 1 ≡ n = omega (arith, length-append front (letter ∷ [])) in
    let some : nat_lt 0 (length whole) ≡ true = lt-ltb 0 (length whole) (omega (arith, length-append front (letter ∷ []))) in
    let at : slice_index whole (length whole - 1) ≡ letter = rw last (get_or-append_seam front letter [] 0) in
    let ends : ends_in letter whole ≡ true = rw (some, at) (eq-eqb letter letter refl) in
    let front_is : front ≡ take (length whole - 1) whole = rw last (sym (take-append_seam front (letter ∷ []))) in
    subst (λ (t : List ℕ). Some front ≡ before letter t) (sym is)
    (ap (λ (f : List ℕ). Some f) front_is ∙ taken (ends_in letter whole) (Some (take (length whole - 1) whole)) None ends)

pub before_none : (letter : ℕ) (text : List ℕ) → ((front : List ℕ) → text ≢ front ++ (letter ∷ [])) → None ≡ before letter text
before_none letter text none =
    let front = take (length text - 1) text in
    left (ends_in letter text) (Some front) None (not_true (ends_in letter text) (λ ends.
    let parts = and_parts (nat_lt 0 (length text)) _ ends in
    let some : 0 < length text = ltb-true 0 (length text) parts.0 in
    let last : length text ≡ (length text - 1) + 1 = omega arith in
    let at : slice_index text (length text - 1) ≡ letter = eqb-true (slice_index text (length text - 1)) letter parts.1 in
    let split = take_more text (length text - 1) 0 (omega arith) in
    let whole : text ≡ take ((length text - 1) + 1) text = sym (take-length text) ∙ ap (λ n. take n text) last in
    none front (whole ∙ split ∙ ap (λ (x : ℕ). front ++ (x ∷ [])) at)))

pub before_found : (letter : ℕ) (text : List ℕ) (r : Option (Bor (List ℕ))) → MatchOption r ((front : List ℕ) → text ≢ front ++ (letter ∷ [])) (λ x. text ≡ x.now ++ (letter ∷ [])) → option_map (λ s. s.now) r ≡ before letter text
before_found letter text (Some x) is = before_is letter text x.now is
before_found letter text None none = before_none letter text none

-- a product that is looked at before it is made
pub made_below : (most value : ℕ) (r : Option ℕ) → SomeIff r (value < most) value → r ≡ cond (nat_lt value most) (Some value) None
made_below most value (Some x) h = ap (λ (n : ℕ). Some n) h.1 ∙ taken (nat_lt value most) (Some value) None (lt-ltb value most h.0)
made_below most value None h = left (nat_lt value most) (Some value) None (not_true (nat_lt value most) (λ less. h (ltb-true value most less)))

-- so many units, where a text says a number, and none where it does not
pub numbered_size : {E : Type 0} (text : List ℕ) (unit n : ℕ) (r : Result ℕ E) → r ≡ Ok n → ParsesUnsigned 64 10 text r → cond (nat_lt (n * unit) (2 ^ 64)) (Some (n * unit)) None ≡ total_of 64 (text, unit)
numbered_size text unit n r is h =
    let kib = number_or_zero 64 text * unit in
    let number : n ≡ number_or_zero 64 text = sym (ap (λ q. result_unwrap_or q 0) is) ∙ number_read 64 text r h in
    ap (λ (k : ℕ). cond (nat_lt (k * unit) (2 ^ 64)) (Some (k * unit)) None) number
    ∙ ap (λ (b : Bool). cond (b && nat_lt kib (2 ^ 64)) (Some kib) None) (sym (is_number_parsed 64 text n r is h))

pub no_size : {E : Type 0} (text : List ℕ) (unit : ℕ) (e : E) (r : Result ℕ E) → r ≡ Err e → ParsesUnsigned 64 10 text r → None ≡ total_of 64 (text, unit)
no_size text unit e r is h =
    let kib = number_or_zero 64 text * unit in
    ap (λ (b : Bool). cond (b && nat_lt kib (2 ^ 64)) (Some kib) None) (sym (is_no_number_refused 64 text e r is h))
