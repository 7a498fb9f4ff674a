-- What holds of each member below an index.
use Rattle.std.proofs.Common.{◌≡◌, ℕ, ◌+◌, ◌<◌, List, length, ap, sym, ◌∙◌, arith, subst, ⊎_elim, get_or}
use Rattle.std.specs.Prelude.{slice_get, Some}
use Rattle.std.proofs.lemmas.Bool.Decides.{eqb_tells}
use Rattle.std.proofs.lemmas.Option.{slice_get-get_or, same_Some}

abbrev pub EachBelow : {X : Type 0} → (X → Type 0) → List X → ℕ → Type 0
EachBelow {X = X} P xs n = (k : ℕ) (x : X) → k < n → slice_get xs k ≡ Some x → P x

pub each_more : {X : Type 0} (P : X → Type 0) (xs : List X) (n : ℕ) (y : X) → n < length xs → y ≡ get_or xs n y → EachBelow P xs n → P y → EachBelow P xs (n + 1)
each_more P xs n y within is before holds k x below at =
    ⊎_elim
    (λ same. let here : slice_get xs n ≡ Some (get_or xs n y) = slice_get-get_or xs n y within in
    let found : Some x ≡ Some (get_or xs n y) = sym at ∙ ap (slice_get xs) same.1 ∙ here in
    subst P (is ∙ sym (same_Some x (get_or xs n y) found)) holds)
    (λ other. before k x (omega (arith, below, other.1)) at)
    (eqb_tells k n)

pub below_next : (P : ℕ → Type 0) (n : ℕ) → ((k : ℕ) → k < n → P k) → P n → (k : ℕ) → k < n + 1 → P k
below_next P n before last k below =
    ⊎_elim (λ same. subst P (sym same.1) last) (λ other. before k (omega (arith, below, other.1))) (eqb_tells k n)
