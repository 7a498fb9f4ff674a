use Rattle.std.proofs.Common.{◌≡◌, ◌∙◌, sym, false, Some, Result, Ok, Err, MatchResult, subst}
use Rattle.std.specs.Result.{is_ok, result_ok}
use Rattle.std.proofs.lemmas.Bool.{false≢true, eqb-true}
use Rattle.md_files.proofs.MaskLemmas.MapLemmas.Numerals.{by_parse, refuses_plus, refuses_binary}
use Rattle.md_files.proofs.masks.maps.numbers.numeral.Goals as goal

not_read : {T E : Type 0} (r : Result T E) (P : T → Type 0) (N : Type 0) (Q : E → Type 0) → MatchResult r P (λ e. (N → ⊥) × Q e) → false ≡ is_ok r → N → ⊥
not_read (Ok x) P N Q h e = absurd (false≢true e)
not_read (Err x) P N Q h e = h.0

what_is_read : {T E : Type 0} (r : Result T E) (P : T → Type 0) (Q : E → Type 0) → MatchResult r P Q → (x : T) → Some x ≡ result_ok r → P x
what_is_read (Ok y) P Q h x e = let same : y ≡ x = cc in subst P same h
what_is_read (Err y) P Q h x e = let wrong : ⊥ = cc in absurd wrong

pub returns-then-begins_with_plus : goal.returns-then-begins_with_plus
returns-then-begins_with_plus c = sym (refuses_plus c.args.radix c.args.digits.now c.requires.high (eqb-true _ 43 (cc)))

pub returns-in_err-digits : goal.returns-in_err-digits
returns-in_err-digits c =
    c.from_residual.ensures ∙ sym (refuses_binary c.args.radix c.args.digits.now c.requires.high (not_read c.from_utf8.result _ _ _ c.from_utf8.ensures.cases c.in_err-digits.ensures.variant))

pub returns : goal.returns
returns c =
    let same = what_is_read c.from_utf8.result _ _ c.from_utf8.ensures.cases c.in_ok-digits.digits c.in_ok-digits.ensures.value in
    c.ok-2.ensures.value
    ∙ by_parse c.args.radix c.args.digits.now c.in_ok-digits.digits.now c.from_str_radix.result same.0
    (λ is. false≢true (sym c.if-begins_with_plus.false ∙ c.begins_with_plus.ensures ∙ is)) c.from_str_radix.ensures.value
