-- The text of a list of which some elements are left out, one after another.
use Rattle.std.proofs.Common.{◌≡◌, ℕ, ◌+◌, ◌<◌, ◌||◌, Bool, true, false, List, [], ◌∷◌, ◌++◌, length, map, take, get_or, ap, refl, sym, ◌∙◌, append-nil}
use Rattle.std.specs.List.{filter}
use Rattle.std.specs.Prelude.{if◌then◌else◌}
use Rattle.std.proofs.lemmas.List.{length-append, map_more}
use Rattle.std.proofs.lemmas.List.Elements.{filter-append}
use Rattle.serde_json.specs.Data.{Data}
use Rattle.serde_json.specs.Written.{comma_if, compact_text}
use Rattle.md_streams.specs.Sink.{Puts}
use Rattle.md_streams.proofs.Puts.{puts_then}
use Rattle.md_report.specs.AsJson.Objects.{Field, elements_text, later_text}
use Rattle.md_report.proofs.JsonLemmas.Elements.{element_more}
use Rattle.md_report.proofs.JsonLemmas.Texts.{is_later, later_more, later_next}

-- the texts of two groups of fields
pub puts_joined : {S : Type 0} (contents : S → _) (failed : S → Bool) {a b c : S} (xs ys : List Field) → Puts contents failed a b (later_text xs) → Puts contents failed b c (later_text ys) → Puts contents failed a c (later_text (xs ++ ys))
puts_joined contents failed {a = a} {c = c} xs ys p q =
    rw (later_more xs ys) (puts_then contents failed p q)

-- the text of one more field of a table
pub later_at : {X : Type 0} (f : X → Field) (xs : List X) (i : ℕ) (d : X) → i < length xs → later_text (map f (take i xs)) ++ later_text (f (get_or xs i d) ∷ []) ≡ later_text (map f (take (i + 1) xs))
later_at f xs i d lt = sym (later_more (map f (take i xs)) (f (get_or xs i d) ∷ [])) ∙ ap later_text (sym (map_more f xs i d lt))

-- the text of a list of one element or none
pub one_where : {X : Type 0} (f : X → Data) (b : Bool) (x : X) → (if b then (comma_if false ++ compact_text (f x)) else []) ≡ elements_text f false (if b then x ∷ [] else [])
unfolding elements_text
one_where f true x = sym (append-nil (comma_if false ++ compact_text (f x)))
one_where f false x = refl

module _ {X : Type 0} (f : X → Data) (p : X → Bool) (xs : List X) (x : X) where
  chosen_next : filter p (xs ++ x ∷ []) ≡ filter p xs ++ (if p x then x ∷ [] else [])
  chosen_next = filter-append p xs (x ∷ [])

  -- with its text, where it is chosen
  pub chosen_more : (is_there : Bool) → is_there ≡ p x
      → elements_text f false (filter p xs) ++ (if is_there then (comma_if (is_later false (length (filter p xs))) ++ compact_text (f x)) else [])
      ≡ elements_text f false (filter p (xs ++ x ∷ []))
  chosen_more true is =
      element_more f false (filter p xs) x
      ∙ ap (λ (b : Bool). elements_text f false (filter p xs ++ (if b then x ∷ [] else []))) is
      ∙ ap (elements_text f false) (sym chosen_next)
  chosen_more false is =
      append-nil (elements_text f false (filter p xs))
      ∙ ap (elements_text f false) (sym (append-nil (filter p xs)))
      ∙ ap (λ (b : Bool). elements_text f false (filter p xs ++ (if b then x ∷ [] else []))) is
      ∙ ap (elements_text f false) (sym chosen_next)

  pub later_chosen : (later is_there : Bool) → later ≡ is_later false (length (filter p xs)) → is_there ≡ p x
      → (later || is_there) ≡ is_later false (length (filter p (xs ++ x ∷ [])))
  later_chosen later true before is =
      or_true later
      ∙ later_next false (length (filter p xs))
      ∙ ap (is_later false) (sym (length-append (filter p xs) (x ∷ [])))
      ∙ ap (λ (b : Bool). is_later false (length (filter p xs ++ (if b then x ∷ [] else [])))) is
      ∙ ap (λ (ys : List X). is_later false (length ys)) (sym chosen_next)
    where
      or_true : (b : Bool) → (b || true) ≡ true
      or_true true = refl
      or_true false = refl
  later_chosen later false before is =
      or_false later ∙ before
      ∙ ap (λ (ys : List X). is_later false (length ys)) (sym (append-nil (filter p xs)))
      ∙ ap (λ (b : Bool). is_later false (length (filter p xs ++ (if b then x ∷ [] else [])))) is
      ∙ ap (λ (ys : List X). is_later false (length ys)) (sym chosen_next)
    where
      or_false : (b : Bool) → (b || false) ≡ b
      or_false true = refl
      or_false false = refl
