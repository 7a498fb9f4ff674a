-- Lemmas on the words of a line.
use Rattle.std.proofs.Common.{◌≡◌, ◌≢◌, ℕ, suc, zero, ◌+◌, ◌-◌, ◌<◌, ◌≤◌, ◌==◌, Bool, true, false, cond, not, List, [], ◌∷◌, length, take, drop, get_or, Some, None, position, unwrap_or, refl, ap, sym, subst, ◌∙◌, arith, rules, ⊎_elim, length-drop}
use Rattle.std.specs.List.{slice_split, filter, take_while, position_or_len, before_first, after_first}
use Rattle.std.proofs.lemmas.List.{take_all, drop_all, get_or-drop, get_or-take, length-take}
use Rattle.std.proofs.lemmas.Bool.{cases_lt, false≢true, ne_eqb, eqb-true, cond-true, cond-false, false_from_ne_true}
use Rattle.std.proofs.lemmas.Bool.Decides.{nat_tests}
use Rattle.std.proofs.lemmas.List.Sums.{fails_before_first, passes_at_first, take_while-cons, prefix_len-le-length}
use Rattle.std.proofs.lemmas.List.Quantifiers.{position-Some}
use Rattle.std.proofs.lemmas.List.Splits.{slice_split-cons_yes, slice_split_first, slice_split_none}
use Rattle.std.proofs.Math.Seq.{drop-cons}
use Rattle.md_files.specs.Masks.Maps.Lines.{is_space, is_word, is_no_comment, fields_of}

abbrev pub words : List ℕ → List (List ℕ)
words line = filter is_word (slice_split is_space line)

abbrev pub is_printed : ℕ → Bool
is_printed b = not (is_space b)

not_false : (b : Bool) → not b ≡ false → b ≡ true
not_false true h = refl
not_false false h = sym h

not_true : (b : Bool) → not b ≡ true → b ≡ false
not_true true h = sym h
not_true false h = refl

-- ---- white space before the first word

pub words-space : (x : ℕ) (xs : List ℕ) → is_space x ≡ true → words (x ∷ xs) ≡ words xs
words-space x xs space = ap (filter is_word) (slice_split-cons_yes is_space x xs space)

words-drop : (n : ℕ) (xs : List ℕ) → n ≤ length xs → ((k : ℕ) → k < n → is_space (get_or xs k 0) ≡ true) → words (drop n xs) ≡ words xs
words-drop zero xs fits all = refl
words-drop (suc n) [] fits all = refl
words-drop (suc n) (x ∷ xs) fits all =
    words-drop n xs (omega arith) (λ k below. all (suc k) (omega arith)) ∙ sym (words-space x xs (all 0 (omega arith)))

words-skip : (xs : List ℕ) → words (drop (position_or_len is_printed xs) xs) ≡ words xs
words-skip xs =
    words-drop (position_or_len is_printed xs) xs (prefix_len-le-length (λ b. not (is_printed b)) xs)
    (λ k below. not_false (is_space (get_or xs k 0)) (fails_before_first is_printed xs k 0 below))

-- ---- the first word

-- a list with one element or more is a word
is_word_long : (w : List ℕ) → 0 < length w → is_word w ≡ true
is_word_long w long = search (rules, nat_tests)

words-first : (xs : List ℕ) → 0 < position_or_len is_space xs → words xs ≡ take (position_or_len is_space xs) xs ∷ words (drop (position_or_len is_space xs) xs)
words-first xs long =
    let n : ℕ = position_or_len is_space xs in
    let fits : position_or_len is_space xs ≤ length xs = prefix_len-le-length (λ b. not (is_space b)) xs in
    let word : is_word (take (position_or_len is_space xs) xs) ≡ true = is_word_long (take (position_or_len is_space xs) xs) (simp (length-take) (omega arith)) in
    ⊎_elim
    (λ ends.
    let rest : drop (position_or_len is_space xs) xs ≡ get_or xs (position_or_len is_space xs) 0 ∷ drop (suc (position_or_len is_space xs)) xs = drop-cons xs (position_or_len is_space xs) 0 ends in
    let next : suc (position_or_len is_space xs) ≡ position_or_len is_space xs + 1 = omega arith in
    let same : words (drop (position_or_len is_space xs) xs) ≡ words (after_first is_space xs) = ap words rest ∙ words-space (get_or xs (position_or_len is_space xs) 0) (drop (suc (position_or_len is_space xs)) xs) (passes_at_first is_space xs 0 ends) ∙ ap (λ (i : ℕ). words (drop i xs)) next in
    ap (filter is_word) (slice_split_first is_space xs 0 ends) ∙ ap (λ b. cond b (before_first is_space xs ∷ words (after_first is_space xs)) (words (after_first is_space xs))) word ∙ ap (λ ws. before_first is_space xs ∷ ws) (sym same))
    (λ all.
    let whole : take (position_or_len is_space xs) xs ≡ xs = take_all (position_or_len is_space xs) xs all in
    let none : drop (position_or_len is_space xs) xs ≡ [] = drop_all (position_or_len is_space xs) xs all in
    ap (filter is_word) (slice_split_none is_space xs (λ k d below. fails_before_first is_space xs k d (omega arith)))
    ∙ ap (λ b. cond b (xs ∷ []) []) (ap is_word (sym whole) ∙ word)
    ∙ ap (λ w. w ∷ []) (sym whole) ∙ ap (λ r. take (position_or_len is_space xs) xs ∷ words r) (sym none))
    (cases_lt (position_or_len is_space xs) (length xs))

-- ---- the first field

unwrap-position : (p : ℕ → Bool) (xs : List ℕ) → unwrap_or (position p xs) (length xs) ≡ position_or_len p xs
unwrap-position p xs =
    let fits : position_or_len p xs ≤ length xs = prefix_len-le-length (λ b. not (p b)) xs in
    ⊎_elim
    (λ within. grind (arith, nat_tests))
    (λ past. grind (arith, nat_tests))
    (cases_lt (position_or_len p xs) (length xs))

pub position_none : (p : ℕ → Bool) (xs : List ℕ) → position p xs ≡ None → length xs ≤ position_or_len p xs
position_none p xs none =
    ⊎_elim (λ within. absurd (grind (arith, nat_tests))) (λ past. past) (cases_lt (position_or_len p xs) (length xs))

pub fields_from_words : (xs ys : List ℕ) → words xs ≡ words ys → fields_of xs ≡ fields_of ys
unfolding fields_of
fields_from_words xs ys same = ap (take_while is_no_comment) same

pub fields-first : (xs : List ℕ) (word rest : List ℕ) → words xs ≡ word ∷ words rest → fields_of xs ≡ cond (is_no_comment word) (word ∷ fields_of rest) []
unfolding fields_of
fields-first xs word rest first = ap (take_while is_no_comment) first ∙ take_while-cons is_no_comment word (words rest)

pub fields-nil : fields_of [] ≡ []
unfolding fields_of
fields-nil = refl

not_comment : (b : ℕ) → b ≢ 35 → not (b == 35) ≡ true
not_comment b other = grind (arith, nat_tests)

-- nothing but white space
pub no_field : (line : List ℕ) → position is_printed line ≡ None → fields_of line ≡ []
no_field line none =
    let past : length line ≤ position_or_len is_printed line = position_none is_printed line none in
    let nothing : drop (length line) line ≡ [] = drop_all (length line) line (omega arith) in
    fields_from_words line [] (sym (words-drop (length line) line (omega arith) (λ k below. not_false (is_space (get_or line k 0)) (fails_before_first is_printed line k 0 (omega arith)))) ∙ ap words nothing)
    ∙ fields-nil

module _ (line : List ℕ) (start : ℕ) (found : position is_printed line ≡ Some start) where
  skips : words (drop start line) ≡ words line
  skips =
      let at = position-Some is_printed line start 0 found in
      words-drop start line (omega (arith, at.0)) (λ k below. not_false (is_space (get_or line k 0)) (at.2 k below))

  first_printed : is_space (get_or (drop start line) 0 0) ≡ false
  first_printed =
      let at = position-Some is_printed line start 0 found in
      let here : start + 0 ≡ start = omega arith in
      ap is_space (get_or-drop start line 0 0 ∙ ap (λ (i : ℕ). get_or line i 0) here) ∙ not_true (is_space (get_or line start 0)) at.1

  long : 0 < length (drop start line)
  long = let at = position-Some is_printed line start 0 found in simp (length-drop) (omega (arith, at.0))

  word_long : 0 < position_or_len is_space (drop start line)
  word_long =
      ⊎_elim (λ some. some)
      (λ none.
      let zero_at : position_or_len is_space (drop start line) ≡ 0 = omega arith in
      absurd (false≢true (sym first_printed ∙ ap (λ i. is_space (get_or (drop start line) i 0)) (sym zero_at) ∙ passes_at_first is_space (drop start line) 0 (omega (arith, long, zero_at)))))
      (cases_lt 0 (position_or_len is_space (drop start line)))

  first_of_line : fields_of line ≡ cond (is_no_comment (take (position_or_len is_space (drop start line)) (drop start line))) (take (position_or_len is_space (drop start line)) (drop start line) ∷ fields_of (drop (position_or_len is_space (drop start line)) (drop start line))) []
  first_of_line = fields-first line _ (drop (position_or_len is_space (drop start line)) (drop start line)) (sym skips ∙ words-first (drop start line) word_long)

  first_byte : get_or (take (position_or_len is_space (drop start line)) (drop start line)) 0 0 ≡ get_or (drop start line) 0 0
  first_byte = get_or-take (position_or_len is_space (drop start line)) (drop start line) 0 0 word_long

  -- a comment
  pub comment_next : get_or (drop start line) 0 0 ≡ 35 → fields_of line ≡ []
  comment_next is = first_of_line ∙ ap (λ (i : ℕ). cond (not (i == 35)) (take (position_or_len is_space (drop start line)) (drop start line) ∷ fields_of (drop (position_or_len is_space (drop start line)) (drop start line))) []) (first_byte ∙ is)

  -- a field
  pub field_next : (n : ℕ) → n ≡ unwrap_or (position is_space (drop start line)) (length (drop start line)) → get_or (drop start line) 0 0 ≢ 35
      → (0 < n) × (n ≤ length (drop start line)) × (fields_of line ≡ take n (drop start line) ∷ fields_of (drop n (drop start line)))
  field_next n is other =
      let here : position_or_len is_space (drop start line) ≡ n = sym (is ∙ unwrap-position is_space (drop start line)) in
      let bound : position_or_len is_space (drop start line) ≤ length (drop start line) = prefix_len-le-length (λ b. not (is_space b)) (drop start line) in
      let test : is_no_comment (take (position_or_len is_space (drop start line)) (drop start line)) ≡ true = ap (λ (i : ℕ). not (i == 35)) first_byte ∙ not_comment (get_or (drop start line) 0 0) other in (
        omega (arith, word_long, here),
        omega (arith, bound, here),
        first_of_line ∙ ap (λ b. cond b (take (position_or_len is_space (drop start line)) (drop start line) ∷ fields_of (drop (position_or_len is_space (drop start line)) (drop start line))) []) test ∙ ap (λ i. take i (drop start line) ∷ fields_of (drop i (drop start line))) here,
      )

-- ---- the same, of a slice from a place on

pub rest_whole : (line : List ℕ) (start : ℕ) → take (length line - start) (drop start line) ≡ drop start line
rest_whole line start = take_all (length line - start) (drop start line) (simp (length-drop) (omega arith))

pub comment_at : (line : List ℕ) (start : ℕ) (rest : List ℕ) → position is_printed line ≡ Some start → rest ≡ drop start line → get_or rest 0 0 ≡ 35 → fields_of line ≡ []
comment_at line start rest found same is = comment_next line start found (ap (λ (xs : List ℕ). get_or xs 0 0) (sym same) ∙ is)

pub field_at : (line : List ℕ) (start : ℕ) (rest : List ℕ) (n : ℕ) (word after : List ℕ) → position is_printed line ≡ Some start → rest ≡ drop start line
    → n ≡ unwrap_or (position is_space rest) (length rest) → (get_or rest 0 0 ≡ 35 → ⊥) → word ≡ take n rest → after ≡ drop n rest
    → (0 < length word) × (fields_of line ≡ cond (length word == 0) [] (word ∷ fields_of after))
field_at line start rest n word after found same is other front back =
    let next = field_next line start found n (is ∙ ap (λ (xs : List ℕ). unwrap_or (position is_space xs) (length xs)) same) (λ c. other (ap (λ (xs : List ℕ). get_or xs 0 0) same ∙ c)) in
    let word_is : word ≡ take n (drop start line) = front ∙ ap (take n) same in
    let after_is : after ≡ drop n (drop start line) = back ∙ ap (drop n) same in
    let size : length word ≡ n = ap length word_is ∙ simp (length-take) (omega (arith, next.1)) in
    let test : (length word == 0) ≡ false = ne_eqb (length word) 0 (λ e. absurd (omega (arith, next.0, size, e))) in
    (omega (arith, next.0, size), next.2 ∙ rw (← word_is, ← after_is) (sym (cond-false (length word == 0) [] (word ∷ fields_of after) test)))

-- one field and no second
pub one_is : (line r1 w1 w2 r2 : List ℕ) → fields_of line ≡ cond (length w1 == 0) [] (w1 ∷ fields_of r1) → fields_of r1 ≡ cond (length w2 == 0) [] (w2 ∷ fields_of r2)
    → (length w1 == 0) ≡ false → (length w2 == 0) ≡ true → fields_of line ≡ w1 ∷ []
one_is line r1 w1 w2 r2 f1 f2 e1 e2 =
    f1 ∙ cond-false (length w1 == 0) [] (w1 ∷ fields_of r1) e1 ∙ ap (λ (xs : List (List ℕ)). w1 ∷ xs) (f2 ∙ cond-true (length w2 == 0) [] (w2 ∷ fields_of r2) e2)

-- four fields or more
pub four_are : (line r1 r2 r3 r4 w1 w2 w3 w4 : List ℕ)
    → fields_of line ≡ cond (length w1 == 0) [] (w1 ∷ fields_of r1) → fields_of r1 ≡ cond (length w2 == 0) [] (w2 ∷ fields_of r2)
    → fields_of r2 ≡ cond (length w3 == 0) [] (w3 ∷ fields_of r3) → fields_of r3 ≡ cond (length w4 == 0) [] (w4 ∷ fields_of r4)
    → (length w3 ≡ 0 → r3 ≡ []) → (length w1 == 0) ≡ false → (length w2 == 0) ≡ false → (length w4 == 0) ≡ false
    → fields_of line ≡ w1 ∷ w2 ∷ w3 ∷ w4 ∷ fields_of r4
four_are line r1 r2 r3 r4 w1 w2 w3 w4 f1 f2 f3 f4 end e1 e2 e4 =
    let g1 : fields_of line ≡ w1 ∷ fields_of r1 = f1 ∙ cond-false (length w1 == 0) [] (w1 ∷ fields_of r1) e1 in
    let g2 : fields_of r1 ≡ w2 ∷ fields_of r2 = f2 ∙ cond-false (length w2 == 0) [] (w2 ∷ fields_of r2) e2 in
    let g4 : fields_of r3 ≡ w4 ∷ fields_of r4 = f4 ∙ cond-false (length w4 == 0) [] (w4 ∷ fields_of r4) e4 in
    let some : (length w3 == 0) ≡ false =
    false_from_ne_true (length w3 == 0) (λ e. let none : fields_of r3 ≡ [] = ap fields_of (end (eqb-true (length w3) 0 e)) ∙ fields-nil in let wrong : ⊥ = cc in wrong) in
    let g3 : fields_of r2 ≡ w3 ∷ fields_of r3 = f3 ∙ cond-false (length w3 == 0) [] (w3 ∷ fields_of r3) some in
    g1 ∙ ap (λ (xs : List (List ℕ)). w1 ∷ xs) (g2 ∙ ap (λ (xs : List (List ℕ)). w2 ∷ xs) (g3 ∙ ap (λ (xs : List (List ℕ)). w3 ∷ xs) g4))

-- some fields, and neither two nor three
abbrev pub AreOthers : List (List ℕ) → Type 0
AreOthers row = (row ≢ []) × (length row ≢ 2) × (length row ≢ 3)

pub one_other : (row : List (List ℕ)) (a : List ℕ) → row ≡ a ∷ [] → AreOthers row
one_other row a is = subst AreOthers (sym is) (λ e. let no : ⊥ = cc in no, λ e. absurd (omega (arith, e)), λ e. absurd (omega (arith, e)))

pub four_others : (row : List (List ℕ)) (a b c d : List ℕ) (more : List (List ℕ)) → row ≡ a ∷ b ∷ c ∷ d ∷ more → AreOthers row
four_others row a b c d more is = subst AreOthers (sym is) (λ e. let no : ⊥ = cc in no, λ e. absurd (omega (arith, e)), λ e. absurd (omega (arith, e)))
