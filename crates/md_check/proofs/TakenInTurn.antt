-- Lists that lose their first element, one after another.
use Rattle.std.proofs.Common.{◌≡◌, ℕ, zero, suc, ◌+◌, ◌<◌, ◌≤◌, ◌++◌, ◌∷◌, [], List, length, map, take, get_or, ap, sym, ◌∙◌, subst, arith, inl, inr}
use Rattle.std.proofs.lemmas.List.{get_or_append_left}
use Rattle.std.proofs.Math.Seq.{get_or-append_seam}
use Rattle.std.proofs.Math.Nat.{eq-or-lt_of_le}

pub left_next : {X Y : Type 0} (f : X → Y) (all : List X) (k : ℕ) (x : X) → k < length all → get_or all k x ≡ x → map f (take k all) ++ (f x ∷ []) ≡ map f (take (suc k) all)
left_next f [] k x below is = absurd (omega arith)
left_next f (y ∷ ys) zero x below is = ap (λ z. f z ∷ []) (sym is)
left_next f (y ∷ ys) (suc k) x below is = ap (λ zs. f y ∷ zs) (left_next f ys k x (omega arith) is)

-- what holds at each place holds at one more
pub next_at : {X : Type 0} (P : ℕ → X → Type 0) (xs : List X) (k : ℕ) (x : X) → length xs ≡ k → P k x → ((i : ℕ) (d : X) → i < k → P i (get_or xs i d))
    → (i : ℕ) (d : X) → i < k + 1 → P i (get_or (xs ++ (x ∷ [])) i d)
next_at P xs k x count at before i d below =
    elim (eq-or-lt_of_le (let le : i ≤ k = omega arith in le)) [
      | inl same ↦
          let there : get_or (xs ++ (x ∷ [])) i d ≡ x = ap (λ n. get_or (xs ++ (x ∷ [])) n d) (same ∙ sym count) ∙ get_or-append_seam xs x [] d in
          subst (P i) (sym there) (subst (λ n. P n x) (sym same) at)
      | inr lower ↦ subst (P i) (sym (get_or_append_left xs (x ∷ []) d i (omega arith))) (before i d lower)
    ]
