-- The words that name images, up to one of them.
use Rattle.std.proofs.Common.{◌≡◌, ◌∙◌, ◌+◌, ◌<◌, ℕ, Bool, true, false, not, cond, List, [], ◌∷◌, ◌++◌, length, map, sym, ap, append-nil, arith}
use Rattle.std.specs.Prelude.{slice_index_or}
use Rattle.std.specs.List.{filter, range_with_len}
use Rattle.std.specs.Borrow.{Bor}
use Rattle.std.proofs.lemmas.List.{get_or-map}
use Rattle.std.proofs.lemmas.List.FromFn.{filter_of_map_range_with_len_more}
use Rattle.md_images.specs.Taking.{Text, Word, is_missing_word}

abbrev pub is_image : Bool → Word → Bool
is_image may_miss w = not (is_missing_word may_miss w.1)

abbrev pub word_at : List Text → ℕ → Word
word_at words i = (i, slice_index_or words i [])

abbrev pub listed : Bool → List Text → ℕ → List Word
listed may_miss words n = filter (is_image may_miss) (map (word_at words) (range_with_len 0 n))

listed_more : (may_miss : Bool) (words : List Text) (n : ℕ) → listed may_miss words (n + 1) ≡ listed may_miss words n ++ cond (is_image may_miss (word_at words n)) (word_at words n ∷ []) []
listed_more may_miss words n = filter_of_map_range_with_len_more (is_image may_miss) (word_at words) 0 n n (omega arith)

-- what an index past the end would read
abbrev pub no_text : Bor Text
no_text = record { ref_ptr = (0, 0); now = [] }

pub text_at : (words : List (Bor Text)) (n : ℕ) → n < length words → slice_index_or (map (λ s. s.now) words) n [] ≡ (slice_index_or words n no_text).now
text_at words n lt = get_or-map (λ s. s.now) words n no_text [] lt

module _ (may_miss : Bool) (words : List (Bor Text)) (n : ℕ) (lt : n < length words) where
  abbrev texts : List Text
  texts = map (λ s. s.now) words

  abbrev name : Text
  name = (slice_index_or words n no_text).now

  text_is : slice_index_or texts n [] ≡ name
  text_is = text_at words n lt

  -- a word that stands for a missing member is left out
  pub left_out : (list : List Word) → is_missing_word may_miss name ≡ true → list ≡ listed may_miss texts n → list ≡ listed may_miss texts (n + 1)
  left_out list missing so =
      so ∙ sym (append-nil (listed may_miss texts n)) ∙ ap (λ b. listed may_miss texts n ++ cond (not b) (word_at texts n ∷ []) []) (sym (ap (is_missing_word may_miss) text_is ∙ missing)) ∙ sym (listed_more may_miss texts n)

  -- another is listed
  pub put_in : (list : List Word) → is_missing_word may_miss name ≡ false → list ≡ listed may_miss texts n → list ++ (n, name) ∷ [] ≡ listed may_miss texts (n + 1)
  put_in list there so =
      ap (λ (xs : List Word). xs ++ (n, name) ∷ []) so ∙ ap (λ (t : Text). listed may_miss texts n ++ (n, t) ∷ []) (sym text_is)
      ∙ ap (λ b. listed may_miss texts n ++ cond (not b) (word_at texts n ∷ []) []) (sym (ap (is_missing_word may_miss) text_is ∙ there)) ∙ sym (listed_more may_miss texts n)
