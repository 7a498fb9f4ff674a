-- A call whose fault was made another one by `map_err`: what the call itself answered, where the answer of `map_err` is known.
use Rattle.std.proofs.Common.{◌≡◌, ◌∙◌, Result, Ok, Err, ap, sym, true≢false}
use Rattle.std.specs.Prelude.{MatchResult, is_ok}
use Rattle.std.specs.Result.{result_unwrap_or}

module _ {T E F : Type 0} (R : E → Type 0) where
  pub own_is : (own : Result T E) (s : Result T F) (x : T) → MatchResult own (λ y. s ≡ Ok y) R → is_ok s ≡ is_ok own → s ≡ Ok x → own ≡ Ok x
  own_is (Ok y) s x cases variant is = ap (λ (t : Result T F). Ok (result_unwrap_or t y)) (sym cases ∙ is)
  own_is (Err e) s x cases variant is = absurd (true≢false (sym (ap (λ (t : Result T F). is_ok t) is) ∙ variant))
