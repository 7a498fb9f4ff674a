-- The chunks that a member lacks and that were not copied, chunk by chunk.
use Rattle.std.proofs.Common.{◌≡◌, ◌∙◌, ℕ, ◌+◌, ◌&&◌, Bool, true, false, not, cond, List, [], ◌∷◌, ◌++◌, append-nil, refl, sym, ap}
use Rattle.std.specs.List.{filter}
use Rattle.std.proofs.lemmas.List.Elements.{filter-append}
use Rattle.md_bitmap.specs.Marks.{Bitmap, is_set}
use Rattle.md_kept_members.specs.View.{MemberView}
use Rattle.md_state.specs.View.{ArrayView}
use Rattle.md_copy.specs.Table.Sources.{is_missing}
use Rattle.md_copy.proofs.TableLemmas.Rows.{missing_below, missing_more}

abbrev pub is_uncopied : Bitmap → ℕ → Bool
is_uncopied copied c = not (is_set copied.bytes c)

-- those below n
abbrev pub uncopied_below : ArrayView → MemberView → Bitmap → ℕ → List ℕ
uncopied_below a m copied n = filter (is_uncopied copied) (missing_below a m n)

one_filtered : (p : ℕ → Bool) (missing : Bool) (n : ℕ) → filter p (cond missing (n ∷ []) []) ≡ cond (missing && p n) (n ∷ []) []
one_filtered p false n = refl
one_filtered p true n = by (p n) refl
  where
    by : (b : Bool) → p n ≡ b → filter p (n ∷ []) ≡ cond b (n ∷ []) []
    by true is = rw is refl
    by false is = rw is refl

uncopied_more : (a : ArrayView) (m : MemberView) (copied : Bitmap) (n : ℕ) → uncopied_below a m copied (n + 1) ≡ uncopied_below a m copied n ++ cond (is_missing a m n && is_uncopied copied n) (n ∷ []) []
uncopied_more a m copied n =
    ap (filter (is_uncopied copied)) (missing_more a m n)
    ∙ filter-append (is_uncopied copied) (missing_below a m n) (cond (is_missing a m n) (n ∷ []) [])
    ∙ ap (λ xs. uncopied_below a m copied n ++ xs) (one_filtered (is_uncopied copied) (is_missing a m n) n)

pub uncopied_one : (a : ArrayView) (m : MemberView) (copied : Bitmap) (n : ℕ) (chunks : List ℕ) → chunks ≡ uncopied_below a m copied n → (is_missing a m n && is_uncopied copied n) ≡ true
    → chunks ++ n ∷ [] ≡ uncopied_below a m copied (n + 1)
uncopied_one a m copied n chunks before is =
    ap (λ xs. xs ++ n ∷ []) before ∙ sym (uncopied_more a m copied n ∙ ap (λ b. uncopied_below a m copied n ++ cond b (n ∷ []) []) is)

pub uncopied_same : (a : ArrayView) (m : MemberView) (copied : Bitmap) (n : ℕ) (chunks : List ℕ) → chunks ≡ uncopied_below a m copied n → (is_missing a m n && is_uncopied copied n) ≡ false
    → chunks ≡ uncopied_below a m copied (n + 1)
uncopied_same a m copied n chunks before none =
    before ∙ sym (uncopied_more a m copied n ∙ ap (λ b. uncopied_below a m copied n ++ cond b (n ∷ []) []) none ∙ append-nil (uncopied_below a m copied n))
