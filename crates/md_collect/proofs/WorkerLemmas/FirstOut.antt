-- A list whose first element leaves, one after another.
use Rattle.std.proofs.Common.{◌≡◌, ℕ, ◌+◌, ◌<◌, ◌∷◌, [], List, length, drop, get_or, remove, ap, sym, ◌∙◌, arith, drop-drop}
use Rattle.std.proofs.lemmas.List.{get_or_default, get_or-drop}

-- a list is its first element and the rest
pub head_is : {X : Type 0} (xs : List X) (x : X) → 0 < length xs → x ≡ get_or xs 0 x → xs ≡ x ∷ remove xs 0
head_is [] x some is = absurd (omega arith)
head_is (y ∷ ys) x some is = ap (λ z. z ∷ ys) (sym is)

pub rest_is : {X : Type 0} (all xs rest : List X) (k : ℕ) → xs ≡ drop k all → rest ≡ remove xs 0 → rest ≡ drop (k + 1) all
rest_is all xs rest k is at = at ∙ ap (λ ys. drop 1 ys) is ∙ drop-drop 1 k all

pub first_is : {X : Type 0} (all xs : List X) (k : ℕ) (x s : X) → xs ≡ drop k all → k < length all → x ≡ get_or xs 0 x → get_or all k s ≡ x
first_is all xs k x s is below at = get_or_default all k s x below ∙ sym (at ∙ ap (λ ys. get_or ys 0 x) is ∙ get_or-drop k all 0 x ∙ ap (λ n. get_or all n x) (let e : k + 0 ≡ k = omega arith in e))
