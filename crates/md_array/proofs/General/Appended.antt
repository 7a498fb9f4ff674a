-- A list with one more element at its end.
use Rattle.std.proofs.Common.{◌≡◌, ◌≢◌, ℕ, zero, suc, Bool, true, false, cond, eqb, List, [], ◌∷◌, ◌++◌, length, slice_get, Some, option_map, unwrap_or, refl, sym, ap, ◌∙◌, arith}
use Rattle.std.proofs.lemmas.List.{get_or_push, length_push}
use Rattle.std.proofs.lemmas.Option.{slice_get-get_or, slice_get_within}
use Rattle.md_model.specs.Sectors.{put}
use Rattle.md_model.proofs.Puts.{put-at}

-- the last one stands at the end
pub got_last : {X : Type 0} (xs : List X) (x : X) → slice_get (xs ++ x ∷ []) (length xs) ≡ Some x
got_last xs x = slice_get-get_or (xs ++ x ∷ []) (length xs) x (omega (arith, length_push xs x)) ∙ ap Some (get_or_push xs x x (length xs) refl)

got_before : {X : Type 0} (xs : List X) (x : X) (j : ℕ) → j ≢ length xs → slice_get (xs ++ x ∷ []) j ≡ slice_get xs j
got_before [] x zero apart = absurd (apart refl)
got_before [] x (suc j) apart = refl
got_before (y ∷ xs) x zero apart = refl
got_before (y ∷ xs) x (suc j) apart = got_before xs x j (λ same. apart (omega arith))

pub got_appended : {X : Type 0} (xs : List X) (x : X) (j : ℕ) → slice_get (xs ++ x ∷ []) j ≡ put (length xs) (Some x) (slice_get xs) j
got_appended xs x j =
    put-at (length xs) (Some x) (slice_get xs) j (λ z. slice_get (xs ++ x ∷ []) j ≡ z)
    (λ same. ap (slice_get (xs ++ x ∷ [])) same ∙ got_last xs x)
    (λ apart. got_before xs x j apart)

-- a fact of each element
pub shown_appended : {X A : Type 0} (of : X → A) (none : A) (xs : List X) (x : X) (j : ℕ)
    → unwrap_or (option_map of (slice_get (xs ++ x ∷ []) j)) none ≡ put (length xs) (of x) (λ k. unwrap_or (option_map of (slice_get xs k)) none) j
shown_appended of none xs x j = ap (λ o. unwrap_or (option_map of o) none) (got_appended xs x j) ∙ moved (eqb j (length xs))
  where
    moved : (b : Bool) → unwrap_or (option_map of (cond b (Some x) (slice_get xs j))) none ≡ cond b (of x) (unwrap_or (option_map of (slice_get xs j)) none)
    moved true = refl
    moved false = refl

-- an element of the list stays where it is
pub got_earlier : {X : Type 0} (xs : List X) (x y : X) (j : ℕ) → slice_get xs j ≡ Some y → slice_get (xs ++ x ∷ []) j ≡ Some y
got_earlier xs x y j e =
    let low = slice_get_within xs j y e in
    got_before xs x j (λ same. absurd (omega arith)) ∙ e

-- beside the last one, whichever it is
pub got_beside : {X : Type 0} (xs : List X) (x y : X) (j : ℕ) → j ≢ length xs → slice_get (xs ++ y ∷ []) j ≡ slice_get (xs ++ x ∷ []) j
got_beside xs x y j apart = got_before xs y j apart ∙ sym (got_before xs x j apart)
