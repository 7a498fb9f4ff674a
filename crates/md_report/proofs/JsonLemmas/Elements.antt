-- The text of the elements of a list, one after another.
use Rattle.std.proofs.Common.{◌≡◌, ℕ, zero, suc, ◌+◌, Bool, true, List, [], ◌∷◌, ◌++◌, length, ap, refl, sym, ◌∙◌, append_assoc, append-nil, arith}
use Rattle.serde_json.specs.Data.{Data}
use Rattle.serde_json.specs.Written.{comma_if, compact_text}
use Rattle.md_report.specs.AsJson.Objects.{elements_text}
use Rattle.md_report.proofs.JsonLemmas.Texts.{is_later, later_next}

after_one : {X : Type 0} (later : Bool) (x : X) (xs : List X) → true ≡ is_later later (length (x ∷ xs))
after_one later x xs =
    let many : length (x ∷ xs) ≡ length xs + 1 = omega arith in
    later_next later (length xs) ∙ ap (is_later later) (sym many)

-- the text of one more element
pub element_more : {X : Type 0} (f : X → Data) (later : Bool) (xs : List X) (x : X) → elements_text f later xs ++ (comma_if (is_later later (length xs)) ++ compact_text (f x)) ≡ elements_text f later (xs ++ x ∷ [])
unfolding elements_text
element_more f later [] x = sym (append-nil (comma_if later ++ compact_text (f x)))
element_more f later (y ∷ ys) x =
    let first = comma_if later ++ compact_text (f y) in
    append_assoc first (elements_text f true ys) (comma_if (is_later later (length (y ∷ ys))) ++ compact_text (f x))
    ∙ ap (λ (b : Bool). first ++ (elements_text f true ys ++ (comma_if b ++ compact_text (f x)))) (sym (after_one later y ys) ∙ always (length ys))
    ∙ ap (λ (t : List ℕ). first ++ t) (element_more f true ys x)
  where
    always : (n : ℕ) → true ≡ is_later true n
    always zero = refl
    always (suc n) = refl
