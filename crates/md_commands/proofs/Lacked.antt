-- The chunks that a member lacks, counted one after another.
use Rattle.std.proofs.Common.{◌≡◌, ◌∙◌, ℕ, ◌+◌, ◌∷◌, ◌++◌, [], Bool, true, false, cond, List, Option, Some, append-nil, ap, length, length-append, refl, slice_get, sym}
use Rattle.std.specs.Option.{option_or}
use Rattle.md_kept_members.specs.View.{MemberView}
use Rattle.md_state.specs.View.{ArrayView}
use Rattle.md_copy.specs.Table.Sources.{is_missing}
use Rattle.md_copy.proofs.TableLemmas.Rows.{missing_below, missing_more}

front : (xs : List ℕ) (n : ℕ) → option_or (slice_get xs 0) (Some n) ≡ slice_get (xs ++ n ∷ []) 0
front [] n = refl
front (x ∷ xs) n = refl

-- one more
pub lacks_one : (a : ArrayView) (m : MemberView) (n count : ℕ) (first : Option ℕ) → count ≡ length (missing_below a m n) → first ≡ slice_get (missing_below a m n) 0 → is_missing a m n ≡ true
    → (count + 1 ≡ length (missing_below a m (n + 1))) × (option_or first (Some n) ≡ slice_get (missing_below a m (n + 1)) 0)
lacks_one a m n count first many is lacks =
    let xs = missing_below a m n in
    let more : missing_below a m (n + 1) ≡ xs ++ n ∷ [] = missing_more a m n ∙ ap (λ (b : Bool). xs ++ cond b (n ∷ []) []) lacks in (
      ap (λ (x : ℕ). x + 1) many ∙ sym (length-append xs (n ∷ [])) ∙ sym (ap length more),
      ap (λ (o : Option ℕ). option_or o (Some n)) is ∙ front xs n ∙ sym (ap (λ (ys : List ℕ). slice_get ys 0) more),
    )

-- no more
pub lacks_none : (a : ArrayView) (m : MemberView) (n count : ℕ) (first : Option ℕ) → count ≡ length (missing_below a m n) → first ≡ slice_get (missing_below a m n) 0 → is_missing a m n ≡ false
    → (count ≡ length (missing_below a m (n + 1))) × (first ≡ slice_get (missing_below a m (n + 1)) 0)
lacks_none a m n count first many is has =
    let xs = missing_below a m n in
    let same : missing_below a m (n + 1) ≡ xs = missing_more a m n ∙ ap (λ (b : Bool). xs ++ cond b (n ∷ []) []) has ∙ append-nil xs in
    (many ∙ sym (ap length same), is ∙ sym (ap (λ (ys : List ℕ). slice_get ys 0) same))
