-- A call whose fault was made a variant of another one by `map_err`: what holds of the call's own answer, where that of
-- `map_err` is known.
use Rattle.std.proofs.Common.{◌≡◌, ◌∙◌, Result, Ok, Err, is_err, ap, subst, sym, true≢false}
use Rattle.std.specs.Prelude.{MatchResult, OnOk, is_ok}
use Rattle.std.specs.Result.{result_unwrap_or}

module _ {T E F : Type 0} (P : T → Type 0) (Q R : E → Type 0) where
  pub own_ok : (own : Result T E) (s : Result T F) (x : T) → MatchResult own P Q
      → MatchResult own (λ y. s ≡ Ok y) R → is_ok s ≡ is_ok own → s ≡ Ok x → P x
  own_ok (Ok y) s x gives cases variant is =
      subst P (ap (λ (t : Result T F). result_unwrap_or t y) (sym cases ∙ is)) gives
  own_ok (Err e) s x gives cases variant is =
      absurd (true≢false (sym (ap (λ (t : Result T F). is_ok t) is) ∙ variant))

  pub own_err : (own : Result T E) (s : Result T F) (f : F) → MatchResult own P Q
      → MatchResult own (λ y. s ≡ Ok y) R → s ≡ Err f → (e : E) × Q e × R e
  own_err (Ok y) s f gives cases is =
      absurd (true≢false (sym (ap (λ (t : Result T F). is_err t) (sym cases ∙ is))))
  own_err (Err e) s f gives cases is = (e, gives, cases)

-- what holds where the call's own answer is Ok, in place of what is done with it after
pub own_on_ok : {T E F U V : Type 0} (X : Type 0) (R : E → Type 0) (own : Result T E) (s : Result T F) (x : T) (after : Result U V) → OnOk own X
    → MatchResult own (λ y. s ≡ Ok y) R → is_ok s ≡ is_ok own → s ≡ Ok x → OnOk after X
own_on_ok {T = T} {F = F} X R (Ok y) s x (Ok z) holds cases variant is = holds
own_on_ok {T = T} {F = F} X R (Ok y) s x (Err v) holds cases variant is = tt
own_on_ok {T = T} {F = F} X R (Err e) s x after holds cases variant is =
    absurd (true≢false (sym (ap (λ (t : Result T F). is_ok t) is) ∙ variant))
