-- The list of requests is as it was, once one that entered it is taken out.
use Rattle.std.proofs.Common.{◌≡◌, ℕ, Bool, true, false, cond, not, ◌==◌, List, [], ◌∷◌, ◌++◌, Some, None, refl, sym, ap, eq-eqb}
use Rattle.std.proofs.lemmas.Option.{none-some}
use Rattle.md_inflight.specs.Inflight.{lookup, entries_without}

pub without_last : {T : Type 0} (number : ℕ) (item : T) (entries : List (ℕ × T)) → lookup entries number ≡ None → entries_without (entries ++ (number, item) ∷ []) number ≡ entries
without_last number item [] none = ap (λ (b : Bool). cond (not b) ((number, item) ∷ []) []) (eq-eqb number number refl)
without_last number item (entry ∷ entries) none = by (entry.0 == number) none (without_last number item entries)
  where
    by : (b : Bool) → cond b (Some entry.1) (lookup entries number) ≡ None
        → (lookup entries number ≡ None → entries_without (entries ++ (number, item) ∷ []) number ≡ entries)
        → cond (not b) (entry ∷ entries_without (entries ++ (number, item) ∷ []) number) (entries_without (entries ++ (number, item) ∷ []) number) ≡ entry ∷ entries
    by true none rest = absurd (none-some entry.1 (sym none))
    by false none rest = ap (λ (xs : List (ℕ × _)). entry ∷ xs) (rest none)
