-- Lemmas on the map that is written.
use Rattle.std.proofs.Common.{◌≡◌, ◌≢◌, ◌⊎◌, nat_lt, ℕ, suc, zero, ◌+◌, ◌-◌, ◌*◌, ◌^◌, ◌<◌, ◌≤◌, ◌↔◌, ⊎_elim, inl, inr, Bool, true, false, cond, eqb, not, codes, min, List, [], ◌∷◌, ◌++◌, append_assoc, length, map, replicate, drop, nat_le, ◌&&◌, get_or, Some, refl, ap, sym, subst, ◌∙◌, arith, lit<, lit≤, length-append}
use Rattle.std.specs.List.{filter, flat_map, All, list_all}
use Rattle.std.specs.Char.{digit_value}
use Rattle.std.specs.Str.Parse.{AllDigits, IsNumeral, digits_value}
use Rattle.std.specs.Fmt.{digits, padded_integral, char_count}
use Rattle.std.proofs.lemmas.Fmt.{digits_is_IsNumeral}
use Rattle.std.proofs.lemmas.Bool.{lt-ltb, le-ltb, le-leb, lt-leb, cond-true, cases_lt, ne_eqb, and_from, and_parts, and_right, or_from, false≢true}
use borrow.Author.Tests.{leb-true}
use Rattle.std.proofs.lemmas.List.Folds.{list_all-append}
use Rattle.std.proofs.lemmas.List.Sums.{AllPass-from_list_all}
use Rattle.std.proofs.lemmas.List.Concat.{flat_map-append}
use Rattle.std.proofs.lemmas.List.{append-nil, drop_all}
use Rattle.std.proofs.lemmas.List.Splits.{slice_split_at}
use Rattle.std.proofs.Math.Seq.{drop-cons}
use Rattle.md_badblocks.specs.declared.run.Run.{Run}
use Rattle.md_badblocks.specs.Runs.{IsBad, IsCanonical, RisesFrom}
use Rattle.md_files.specs.Masks.Maps.Lines.{is_space, is_word, is_line_feed, is_no_comment, lines_of, fields_of}
use Rattle.md_files.specs.Masks.Maps.Numbers.{numeral, number_of}
use Rattle.md_files.specs.Masks.Maps.Rows.{rescued_of, is_current_status, IsStatusRow, IsBlockRow}
use Rattle.md_files.specs.Masks.Maps.Map.{is_row, rows_of, AreBlocks, IsSaid, end_of_blocks, IsMissing, IsMapReadAs}
use Rattle.md_files.specs.Masks.Maps.Writing.{block, rescued_between, blocks_from, hexadecimal, status_text, block_line, ended, head_lines, lines_text, map_text, untried_before}
use Rattle.md_files.specs.declared.masks.maps.line.Block.{Block}
use Rattle.md_files.proofs.MaskLemmas.MapLemmas.Words.{words, words-space, fields-first, fields_from_words}
use Rattle.md_files.proofs.MaskLemmas.MapLemmas.Numerals.{reads}
use Rattle.md_files.proofs.MaskLemmas.MapLemmas.Lines.{end-cons}

-- ---- numbers

zeros : (k : ℕ) (ds : List ℕ) → AllDigits 16 ds → AllDigits 16 (replicate k 48 ++ ds)
zeros zero ds all = all
zeros (suc k) ds all = (lit< tt, zeros k ds all)

zeros_value : (k : ℕ) (ds : List ℕ) → digits_value 16 (replicate k 48 ++ ds) ≡ digits_value 16 ds
zeros_value zero ds = refl
zeros_value (suc k) ds = zeros_value k ds

-- zeros, and the digits
hexadecimal_is : (n : ℕ) → hexadecimal n ≡ 48 ∷ 120 ∷ (replicate (8 - length (digits 16 true n)) 48 ++ digits 16 true n)
unfolding hexadecimal padded_integral char_count
hexadecimal_is n =
    let pad : 8 - length (digits 16 true n) - 0 - 0 ≡ 8 - length (digits 16 true n) = omega arith in
    ap (λ (ds : List ℕ). 48 ∷ 120 ∷ ds)
    (ap (λ (k : ℕ). replicate k 48 ++ (digits 16 true n ++ [])) pad ∙ ap (λ (xs : List ℕ). replicate (8 - length (digits 16 true n)) 48 ++ xs) (append-nil (digits 16 true n)))

numeral_zeros : (n : ℕ) → n < 2 ^ 64 → IsNumeral 16 (replicate (8 - length (digits 16 true n)) 48 ++ digits 16 true n)
numeral_zeros n small =
    let is = digits_is_IsNumeral 16 true (lit≤ tt) (lit≤ tt) n (omega arith) in
    (simp (length-append) (omega (arith, is.0.0)), zeros (8 - length (digits 16 true n)) (digits 16 true n) is.0.1)

value_zeros : (n : ℕ) → n < 2 ^ 64 → digits_value 16 (replicate (8 - length (digits 16 true n)) 48 ++ digits 16 true n) ≡ n
value_zeros n small = zeros_value (8 - length (digits 16 true n)) (digits 16 true n) ∙ (digits_is_IsNumeral 16 true (lit≤ tt) (lit≤ tt) n (omega arith)).1

number_after : (ds : List ℕ) → number_of (48 ∷ 120 ∷ ds) ≡ numeral 16 ds
unfolding number_of
number_after ds = refl

number_back : (n : ℕ) → n < 2 ^ 64 → number_of (hexadecimal n) ≡ Some n
number_back n small =
    let ds : List ℕ = replicate (8 - length (digits 16 true n)) 48 ++ digits 16 true n in
    ap number_of (hexadecimal_is n) ∙ number_after (replicate (8 - length (digits 16 true n)) 48 ++ digits 16 true n)
    ∙ reads 16 (replicate (8 - length (digits 16 true n)) 48 ++ digits 16 true n) (numeral_zeros n small) (omega (arith, value_zeros n small))
    ∙ ap Some (value_zeros n small)

-- ---- bytes that are printed

abbrev is_high : ℕ → Bool
is_high c = nat_le 33 c

abbrev is_line_byte : ℕ → Bool
is_line_byte c = nat_le 32 c

digit_printed : (c : ℕ) → digit_value c < 16 → 48 ≤ c
digit_printed c is =
    ⊎_elim (λ low. let e : digit_value c ≡ 36 = rw (lt-ltb c 48 low) refl in absurd (omega (arith, e, is))) (λ high. high) (cases_lt c 48)

digits_high : (ds : List ℕ) → AllDigits 16 ds → list_all is_high ds ≡ true
digits_high [] all = refl
digits_high (c ∷ cs) all = and_from (is_high c) (list_all is_high cs) (le-leb 33 c (let h = digit_printed c all.0 in omega (arith, h))) (digits_high cs all.1)

hexadecimal_high : (n : ℕ) → n < 2 ^ 64 → list_all is_high (hexadecimal n) ≡ true
hexadecimal_high n small = ap (list_all is_high) (hexadecimal_is n) ∙ digits_high (replicate (8 - length (digits 16 true n)) 48 ++ digits 16 true n) (numeral_zeros n small).1

high_line : (w : List ℕ) → list_all is_high w ≡ true → list_all is_line_byte w ≡ true
high_line [] all = refl
high_line (c ∷ cs) all =
    let both = and_parts (is_high c) (list_all is_high cs) all in
    and_from (is_line_byte c) (list_all is_line_byte cs) (le-leb 32 c (let h : 33 ≤ c = leb-true 33 c both.0 in omega (arith, h))) (high_line cs both.1)

no_space : (w : List ℕ) → list_all is_high w ≡ true → All (λ c. is_space c ≡ false) w
no_space w all =
    λ k d below.
    let high : 33 ≤ get_or w k d = leb-true 33 (get_or w k d) (AllPass-from_list_all is_high w all k d below) in
    or_from (eqb (get_or w k d) 32) (nat_le 9 (get_or w k d) && nat_le (get_or w k d) 13) (ne_eqb (get_or w k d) 32 (λ e. absurd (omega (arith, e, high))))
    (and_right (nat_le 9 (get_or w k d)) (nat_le (get_or w k d) 13) (lt-leb (get_or w k d) 13 (omega (arith, high))))

no_feed : (w : List ℕ) → list_all is_line_byte w ≡ true → All (λ c. is_line_feed c ≡ false) w
no_feed w all =
    λ k d below.
    let high : 32 ≤ get_or w k d = leb-true 32 (get_or w k d) (AllPass-from_list_all is_line_byte w all k d below) in
    ne_eqb (get_or w k d) 10 (λ e. absurd (omega (arith, e, high)))

-- ---- the fields of a line

fields_then : (w rest : List ℕ) → list_all is_high w ≡ true → 0 < length w → get_or w 0 0 ≢ 35 → fields_of (w ++ 32 ∷ rest) ≡ w ∷ fields_of rest
fields_then w rest high some other =
    let first : words (w ++ 32 ∷ rest) ≡ w ∷ words rest =
    ap (filter is_word) (slice_split_at is_space w 32 rest (no_space w high) refl) ∙ ap (λ (b : Bool). cond b (w ∷ words rest) (words rest)) (lt-ltb 0 (length w) some) in
    fields-first (w ++ 32 ∷ rest) w rest first ∙ cond-true (is_no_comment w) (w ∷ fields_of rest) [] (ap not (ne_eqb (get_or w 0 0) 35 other))

fields_blank : (rest : List ℕ) → fields_of (32 ∷ rest) ≡ fields_of rest
fields_blank rest = fields_from_words (32 ∷ rest) rest (words-space 32 rest refl)

fields_status : (r u : Bool) → fields_of (status_text r u) ≡ status_text r u ∷ []
unfolding fields_of
fields_status true u = refl
fields_status false true = refl
fields_status false false = refl

hexadecimal_first : (n : ℕ) → get_or (hexadecimal n) 0 0 ≡ 48
hexadecimal_first n = ap (λ (xs : List ℕ). get_or xs 0 0) (hexadecimal_is n)

hexadecimal_some : (n : ℕ) → 0 < length (hexadecimal n)
hexadecimal_some n = let e = ap length (hexadecimal_is n) in omega (arith, e)

hexadecimal_field : (n : ℕ) (rest : List ℕ) → n < 2 ^ 64 → fields_of (hexadecimal n ++ 32 ∷ rest) ≡ hexadecimal n ∷ fields_of rest
hexadecimal_field n rest small =
    fields_then (hexadecimal n) rest (hexadecimal_high n small) (hexadecimal_some n) (λ e. absurd (omega (arith, e, hexadecimal_first n)))

fields_block : (tried : ℕ) (b : Block) → b.start < 2 ^ 64 → b.len < 2 ^ 64 → fields_of (block_line tried b) ≡ hexadecimal b.start ∷ hexadecimal b.len ∷ status_text b.rescued (nat_lt b.start tried) ∷ []
unfolding block_line
fields_block tried b start len =
    hexadecimal_field b.start (32 ∷ (hexadecimal b.len ++ 32 ∷ 32 ∷ status_text b.rescued (nat_lt b.start tried))) start
    ∙ ap (λ (fs : List (List ℕ)). hexadecimal b.start ∷ fs) (fields_blank (hexadecimal b.len ++ 32 ∷ 32 ∷ status_text b.rescued (nat_lt b.start tried)) ∙ hexadecimal_field b.len (32 ∷ status_text b.rescued (nat_lt b.start tried)) len
    ∙ ap (λ (fs : List (List ℕ)). hexadecimal b.len ∷ fs) (fields_blank (status_text b.rescued (nat_lt b.start tried)) ∙ fields_status b.rescued (nat_lt b.start tried)))

status_back : (r u : Bool) → rescued_of (status_text r u) ≡ Some r
unfolding rescued_of
status_back true u = refl
status_back false true = refl
status_back false false = refl

block_row : (tried : ℕ) (b : Block) → b.start < 2 ^ 64 → b.len < 2 ^ 64 → IsBlockRow (fields_of (block_line tried b)) b
block_row tried b start len = (
  hexadecimal b.start,
  hexadecimal b.len,
  status_text b.rescued (nat_lt b.start tried),
  fields_block tried b start len,
  number_back b.start start,
  number_back b.len len,
  status_back b.rescued (nat_lt b.start tried),
)

status_byte : (r u : Bool) → list_all is_line_byte (status_text r u) ≡ true
status_byte true u = refl
status_byte false true = refl
status_byte false false = refl

block_line_byte : (tried : ℕ) (b : Block) → b.start < 2 ^ 64 → b.len < 2 ^ 64 → list_all is_line_byte (block_line tried b) ≡ true
unfolding block_line
block_line_byte tried b start len =
    let status : List ℕ = status_text b.rescued (nat_lt b.start tried) in
    list_all-append is_line_byte (hexadecimal b.start) (32 ∷ 32 ∷ (hexadecimal b.len ++ 32 ∷ 32 ∷ status))
    ∙ and_from (list_all is_line_byte (hexadecimal b.start)) (list_all is_line_byte (hexadecimal b.len ++ 32 ∷ 32 ∷ status)) (high_line (hexadecimal b.start) (hexadecimal_high b.start start))
    (list_all-append is_line_byte (hexadecimal b.len) (32 ∷ 32 ∷ status)
    ∙ and_from (list_all is_line_byte (hexadecimal b.len)) (list_all is_line_byte status) (high_line (hexadecimal b.len) (hexadecimal_high b.len len)) (status_byte b.rescued (nat_lt b.start tried)))

-- ---- the lines of the text

abbrev AreLines : List (List ℕ) → Type 0
AreLines [] = Unit {0}
AreLines (l ∷ ls) = (list_all is_line_byte l ≡ true) × AreLines ls

lines_back : (ls : List (List ℕ)) → AreLines ls → lines_of (flat_map ended ls) ≡ ls ++ [] ∷ []
unfolding lines_of
lines_back [] are = refl
lines_back (l ∷ ls) are =
    ap lines_of (append_assoc l (10 ∷ []) (flat_map ended ls)) ∙ slice_split_at is_line_feed l 10 (flat_map ended ls) (no_feed l are.0) refl ∙ ap (λ (xs : List (List ℕ)). l ∷ xs) (lines_back ls are.1)

-- ---- the blocks

-- the blocks follow one another from `from` on, up to `size` at most
abbrev IsChain : ℕ → ℕ → List Block → Type 0
IsChain size from [] = Unit {0}
IsChain size from (b ∷ bs) = (b.start ≡ from) × (from + b.len ≤ size) × IsChain size (from + b.len) bs

chain_lines : (size tried from : ℕ) (bs : List Block) → size ≤ 2 ^ 63 → from ≤ size → IsChain size from bs → AreLines (map (block_line tried) bs)
chain_lines size tried from [] small low chain = tt
chain_lines size tried from (b ∷ bs) small low chain =
    (block_line_byte tried b (omega (arith, chain.0)) (omega (arith, chain.1)), chain_lines size tried (from + b.len) bs small chain.1 chain.2)

chain_rows : (size tried from : ℕ) (bs : List Block) → size ≤ 2 ^ 63 → from ≤ size → IsChain size from bs → AreBlocks size from (rows_of (map (block_line tried) bs)) bs
unfolding rows_of
chain_rows size tried from [] small low chain = tt
chain_rows size tried from (b ∷ bs) small low chain =
    let start : b.start < 2 ^ 64 = omega (arith, chain.0) in
    let len : b.len < 2 ^ 64 = omega (arith, chain.1) in
    let some : is_row (fields_of (block_line tried b)) ≡ true = ap is_row (fields_block tried b start len) ∙ lt-ltb 0 (length (hexadecimal b.start ∷ hexadecimal b.len ∷ status_text b.rescued (nat_lt b.start tried) ∷ [])) (omega arith) in
    subst (λ (c : Bool). AreBlocks size from (cond c (fields_of (block_line tried b) ∷ filter is_row (map fields_of (map (block_line tried) bs))) (filter is_row (map fields_of (map (block_line tried) bs)))) (b ∷ bs)) (sym some)
    (block_row tried b start len, chain.0, chain.1, chain_rows size tried (from + b.len) bs small chain.1 chain.2)

gap_chain : (size from to : ℕ) (rest : List Block) → from ≤ to → to ≤ size → IsChain size to rest → IsChain size from (rescued_between from to ++ rest)
gap_chain size from to rest low high chain =
    ⊎_elim
    (λ some. let back : from + (to - from) ≡ to = omega (arith, low) in
    subst (λ (c : Bool). IsChain size from (cond c (block from (to - from) true ∷ []) [] ++ rest)) (sym (lt-ltb from to some)) (refl, omega (arith, back, high), subst (λ (n : ℕ). IsChain size n rest) (sym back) chain))
    (λ none. let same : to ≡ from = omega (arith, low, none) in
    subst (λ (c : Bool). IsChain size from (cond c (block from (to - from) true ∷ []) [] ++ rest)) (sym (le-ltb from to none)) (subst (λ (n : ℕ). IsChain size n rest) same chain))
    (cases_lt from to)

gap_end : (from to : ℕ) (rest : List Block) → from ≤ to → from + end_of_blocks (rescued_between from to ++ rest) ≡ to + end_of_blocks rest
gap_end from to rest low =
    ⊎_elim
    (λ some. ap (λ (c : Bool). from + end_of_blocks (cond c (block from (to - from) true ∷ []) [] ++ rest)) (lt-ltb from to some) ∙ (let e = end-cons (block from (to - from) true) rest in omega (arith, e, low)))
    (λ none. ap (λ (c : Bool). from + end_of_blocks (cond c (block from (to - from) true ∷ []) [] ++ rest)) (le-ltb from to none) ∙ omega (arith, low, none))
    (cases_lt from to)

gap_missing : (from to : ℕ) (rest : List Block) (s : ℕ) → IsMissing (rescued_between from to ++ rest) s ↔ IsMissing rest s
gap_missing from to rest s =
    ⊎_elim
    (λ some. subst (λ (c : Bool). IsMissing (cond c (block from (to - from) true ∷ []) [] ++ rest) s ↔ IsMissing rest s) (sym (lt-ltb from to some)) (λ h. ⊎_elim (λ lost. absurd (false≢true (sym lost.0))) (λ x. x) h, λ h. inr h))
    (λ none. subst (λ (c : Bool). IsMissing (cond c (block from (to - from) true ∷ []) [] ++ rest) s ↔ IsMissing rest s) (sym (le-ltb from to none)) (λ h. h, λ h. h))
    (cases_lt from to)

-- ---- the bytes that were not tried
untried_chain : (size to : ℕ) (rest : List Block) → to ≤ size → IsChain size to rest → IsChain size 0 (untried_before to ++ rest)
untried_chain size to rest high chain =
    ⊎_elim
    (λ some. let same : 0 + to ≡ to = omega arith in
    subst (λ (c : Bool). IsChain size 0 (cond c (block 0 to false ∷ []) [] ++ rest)) (sym (lt-ltb 0 to some)) (refl, omega (arith, high), subst (λ (n : ℕ). IsChain size n rest) (sym same) chain))
    (λ none. let same : to ≡ 0 = omega (arith, none) in
    subst (λ (c : Bool). IsChain size 0 (cond c (block 0 to false ∷ []) [] ++ rest)) (sym (le-ltb 0 to none)) (subst (λ (n : ℕ). IsChain size n rest) same chain))
    (cases_lt 0 to)

untried_end : (to : ℕ) (rest : List Block) → end_of_blocks (untried_before to ++ rest) ≡ to + end_of_blocks rest
untried_end to rest =
    ⊎_elim
    (λ some. ap (λ (c : Bool). end_of_blocks (cond c (block 0 to false ∷ []) [] ++ rest)) (lt-ltb 0 to some) ∙ end-cons (block 0 to false) rest)
    (λ none. ap (λ (c : Bool). end_of_blocks (cond c (block 0 to false ∷ []) [] ++ rest)) (le-ltb 0 to none) ∙ omega (arith, none))
    (cases_lt 0 to)

untried_missing : (first : ℕ) (rest : List Block) (s : ℕ) → IsMissing (untried_before (512 * first) ++ rest) s ↔ ((s < first) ⊎ IsMissing rest s)
untried_missing first rest s =
    ⊎_elim
    (λ some. subst (λ (c : Bool). IsMissing (cond c (block 0 (512 * first) false ∷ []) [] ++ rest) s ↔ ((s < first) ⊎ IsMissing rest s)) (sym (lt-ltb 0 (512 * first) some)) (
      λ h. ⊎_elim (λ lost. inl (omega (arith, lost.1.2, lost.1.3))) (λ later. inr later) h,
      λ h. ⊎_elim (λ early. inl (refl, (512 * s, omega arith, omega (arith, early), omega arith))) (λ later. inr later) h,
    ))
    (λ none. subst (λ (c : Bool). IsMissing (cond c (block 0 (512 * first) false ∷ []) [] ++ rest) s ↔ ((s < first) ⊎ IsMissing rest s)) (sym (le-ltb 0 (512 * first) none)) (
      λ h. inr h,
      λ h. ⊎_elim (λ early. absurd (omega (arith, early, none))) (λ later. later) h,
    ))
    (cases_lt 0 (512 * first))

-- no sector is lacking before the first that was tried
abbrev pub AreTried : ℕ → List Run → Type 0
AreTried first runs = (s : ℕ) → IsBad runs s → first ≤ s

rises_tried : (first low : ℕ) (runs : List Run) → RisesFrom low runs → AreTried first runs → RisesFrom first runs
rises_tried first low [] rises tried = tt
rises_tried first low (run ∷ runs) rises tried =
    let from : first ≤ run.start = tried run.start (inl (omega arith, omega (arith, rises.1))) in
    (from, rises.1, rises.2, rises.3)

-- the runs lie within the image
abbrev pub AreWithin : ℕ → List Run → Type 0
AreWithin size runs = (s : ℕ) → IsBad runs s → 512 * s < size

-- where the bytes of a run end
abbrev run_end : ℕ → Run → ℕ
run_end size run = min (512 * (run.start + run.len)) size

record IsRunAt (size from : ℕ) (run : Run) : Type 0 where
  low : from ≤ 512 * run.start
  below : 512 * run.start < run_end size run
  within : run_end size run ≤ size
  next : run_end size run ≤ 512 * (run.start + run.len + 1)

run_at : (size from low : ℕ) (run : Run) (runs : List Run) → RisesFrom low (run ∷ runs) → from ≤ 512 * low → AreWithin size (run ∷ runs) → IsRunAt size from run
run_at size from low run runs rises at within =
    let last : 512 * (run.start + run.len - 1) < size = within (run.start + run.len - 1) (inl (omega (arith, rises.1), omega (arith, rises.1))) in
    record { low = omega (arith, rises.0, at); below = omega (arith, rises.1, last); within = omega arith; next = omega arith }

chain_from : (size from low : ℕ) (runs : List Run) → RisesFrom low runs → from ≤ 512 * low → from ≤ size → AreWithin size runs
    → IsChain size from (blocks_from size from runs) × (from + end_of_blocks (blocks_from size from runs) ≡ size)
chain_from size from low [] rises at fits within =
    let same : rescued_between from size ++ [] ≡ rescued_between from size = append-nil (rescued_between from size) in (
      subst (λ (bs : List Block). IsChain size from bs) same (gap_chain size from size [] fits (omega arith) tt),
      ap (λ (bs : List Block). from + end_of_blocks bs) (sym same) ∙ gap_end from size [] fits ∙ omega arith,
    )
chain_from size from low (run ∷ runs) rises at fits within =
    let r = run_at size from low run runs rises at within in
    let rest = chain_from size (run_end size run) (run.start + run.len + 1) runs rises.3 r.next r.within (λ s bad. within s (inr bad)) in
    let back : 512 * run.start + (run_end size run - 512 * run.start) ≡ run_end size run = omega (arith, r.below) in
    let lost : IsChain size (512 * run.start) (block (512 * run.start) (run_end size run - 512 * run.start) false ∷ blocks_from size (run_end size run) runs) =
    (refl, omega (arith, back, r.within), subst (λ (n : ℕ). IsChain size n (blocks_from size (run_end size run) runs)) (sym back) rest.0) in (
      gap_chain size from (512 * run.start) _ r.low (omega (arith, r.below, r.within)) lost,
      gap_end from (512 * run.start) _ r.low ∙ (let e = end-cons (block (512 * run.start) (run_end size run - 512 * run.start) false) (blocks_from size (run_end size run) runs) in omega (arith, e, back, rest.1)),
    )

missing_from : (size from : ℕ) (runs : List Run) → AreWithin size runs → (s : ℕ) → IsBad runs s ↔ IsMissing (blocks_from size from runs) s
missing_from size from [] within s =
    let same : rescued_between from size ++ [] ≡ rescued_between from size = append-nil (rescued_between from size) in
    (λ h. absurd h, λ h. (gap_missing from size [] s).0 (subst (λ (bs : List Block). IsMissing bs s) (sym same) h))
missing_from size from (run ∷ runs) within s =
    let rest = missing_from size (run_end size run) runs (λ t bad. within t (inr bad)) s in
    let gap = gap_missing from (512 * run.start) (block (512 * run.start) (run_end size run - 512 * run.start) false ∷ blocks_from size (run_end size run) runs) s in (
      λ h. gap.1 (⊎_elim (λ here. let inside : 512 * s < size = within s (inl here) in inl (refl, (512 * s, omega (arith, here.0), omega (arith, here.0, here.1, inside), omega arith))) (λ later. inr (rest.0 later)) h),
      λ h. ⊎_elim (λ lost. inl (omega (arith, lost.1.1, lost.1.3), omega (arith, lost.1.1, lost.1.2, lost.1.3))) (λ later. inr (rest.1 later)) (gap.0 h),
    )

-- ---- the whole text

head_rows : (ls : List (List ℕ)) → rows_of (head_lines ++ ls) ≡ (codes "0x00000000" ∷ codes "+" ∷ codes "1" ∷ []) ∷ rows_of ls
unfolding rows_of fields_of
head_rows ls = refl

head_status : IsStatusRow (codes "0x00000000" ∷ codes "+" ∷ codes "1" ∷ [])
unfolding number_of numeral is_current_status
head_status = (codes "0x00000000", codes "+", Some (codes "1"), refl, refl, refl, refl)

map_lines : (tried : ℕ) (bs : List Block) → lines_text tried bs ≡ flat_map ended (map (block_line tried) bs)
map_lines tried [] = refl
map_lines tried (b ∷ bs) = ap (λ (xs : List ℕ). ended (block_line tried b) ++ xs) (map_lines tried bs)

abbrev all_blocks : ℕ → ℕ → List Run → List Block
all_blocks size tried runs = untried_before tried ++ blocks_from size tried runs

text_lines : (size tried : ℕ) (runs : List Run) → map_text size tried runs ≡ flat_map ended (head_lines ++ map (block_line tried) (all_blocks size tried runs))
unfolding map_text
text_lines size tried runs =
    ap (λ (xs : List ℕ). flat_map ended head_lines ++ xs) (map_lines tried (all_blocks size tried runs))
    ∙ sym (flat_map-append ended head_lines (map (block_line tried) (all_blocks size tried runs)))

pub read_back : (size first : ℕ) (text : List ℕ) (runs : List Run) → size ≤ 2 ^ 63 → 512 * first ≤ size → IsCanonical runs → AreTried first runs → AreWithin size runs → text ≡ map_text size (512 * first) runs
    → (lacking : List Run) → ((s : ℕ) → IsBad lacking s ↔ ((s < first) ⊎ IsBad runs s)) → IsMapReadAs size text lacking
read_back size first text runs small start canonical tried within is lacking all =
    let from : ℕ = 512 * first in
    let bs : List Block = all_blocks size (512 * first) runs in
    let chain = chain_from size (512 * first) first runs (rises_tried first 0 runs canonical tried) (omega arith) start within in
    let whole : IsChain size 0 (all_blocks size (512 * first) runs) = untried_chain size (512 * first) (blocks_from size (512 * first) runs) start chain.0 in
    let lines : List (List ℕ) = map (block_line (512 * first)) (all_blocks size (512 * first) runs) in
    let are : AreLines (head_lines ++ map (block_line (512 * first)) (all_blocks size (512 * first) runs)) = (refl, (refl, (refl, (refl, chain_lines size (512 * first) 0 (all_blocks size (512 * first) runs) small (omega arith) whole)))) in
    record {
      blocks = all_blocks size (512 * first) runs;
      map = record {
        lines = head_lines ++ map (block_line (512 * first)) (all_blocks size (512 * first) runs);
        whole = ap lines_of (is ∙ text_lines size (512 * first) runs) ∙ lines_back (head_lines ++ map (block_line (512 * first)) (all_blocks size (512 * first) runs)) are;
        said = subst (λ (rows : List (List (List ℕ))). IsSaid size rows (Some (all_blocks size (512 * first) runs))) (sym (head_rows (map (block_line (512 * first)) (all_blocks size (512 * first) runs)))) (head_status, chain_rows size (512 * first) 0 (all_blocks size (512 * first) runs) small (omega arith) whole);
        full = untried_end (512 * first) (blocks_from size (512 * first) runs) ∙ chain.1;
      };
      lacks = λ s.
          let some = untried_missing first (blocks_from size (512 * first) runs) s in
          let later = missing_from size (512 * first) runs within s in (
            λ bad. some.1 (⊎_elim (λ early. inl early) (λ bad. inr (later.0 bad)) ((all s).0 bad)),
            λ missing. (all s).1 (⊎_elim (λ early. inl early) (λ m. inr (later.1 m)) (some.0 missing)),
          );
    }

-- ---- run by run

-- the text up to a run: with the lines of what is left it is the whole
pub record IsWrittenUpTo (size tried : ℕ) (runs : List Run) (i from : ℕ) (text : List ℕ) : Type 0 where
  pub written : text ++ lines_text tried (blocks_from size from (drop i runs)) ≡ map_text size tried runs
  pub low : ℕ
  pub rises : RisesFrom low (drop i runs)
  pub there : from ≤ 512 * low
  pub fits : from ≤ size
  pub within : AreWithin size (drop i runs)

pub write_start : (size first : ℕ) (runs : List Run) (head text : List ℕ) → 512 * first ≤ size → head ≡ flat_map ended head_lines → text ≡ head ++ lines_text (512 * first) (untried_before (512 * first))
    → IsCanonical runs → AreTried first runs → AreWithin size runs → IsWrittenUpTo size (512 * first) runs 0 (512 * first) text
unfolding map_text
write_start size first runs head text start is_head is canonical tried within = record {
  written =
      ap (λ (xs : List ℕ). xs ++ lines_text (512 * first) (blocks_from size (512 * first) runs)) (is ∙ ap (λ (xs : List ℕ). xs ++ lines_text (512 * first) (untried_before (512 * first))) is_head)
      ∙ append_assoc (flat_map ended head_lines) (lines_text (512 * first) (untried_before (512 * first))) (lines_text (512 * first) (blocks_from size (512 * first) runs))
      ∙ ap (λ (xs : List ℕ). flat_map ended head_lines ++ xs) (sym (flat_map-append (λ b. ended (block_line (512 * first) b)) (untried_before (512 * first)) (blocks_from size (512 * first) runs)));
  low = first;
  rises = rises_tried first 0 runs canonical tried;
  there = omega arith;
  fits = start;
  within = within;
}

module _ (size tried : ℕ) (runs : List Run) (i from : ℕ) (text : List ℕ) (up : IsWrittenUpTo size tried runs i from text) where
  module _ (run d : Run) (below : i < length runs) (is : run ≡ get_or runs i d) where
    rest_is : drop i runs ≡ run ∷ drop (i + 1) runs
    rest_is = let next : suc i ≡ i + 1 = omega arith in drop-cons runs i d below ∙ ap (λ (r : Run). r ∷ drop (suc i) runs) (sym is) ∙ ap (λ (n : ℕ). run ∷ drop n runs) next

    rises_here : RisesFrom up.low (run ∷ drop (i + 1) runs)
    rises_here = subst (λ (rs : List Run). RisesFrom up.low rs) rest_is up.rises

    within_here : AreWithin size (run ∷ drop (i + 1) runs)
    within_here = subst (λ (rs : List Run). AreWithin size rs) rest_is up.within

    -- what the code has to know of the run
    pub at_run : (from ≤ 512 * run.start) × (512 * run.start < run_end size run) × (run_end size run ≤ size) × (run.start + run.len ≤ 2 ^ 54)
    at_run =
        let r = run_at size from up.low run (drop (i + 1) runs) rises_here up.there within_here in
        (r.low, r.below, r.within, rises_here.2)

    pub write_step : (mid new : List ℕ) (end : ℕ) → end ≡ run_end size run → mid ≡ text ++ lines_text tried (rescued_between from (512 * run.start))
        → new ≡ mid ++ ended (block_line tried (block (512 * run.start) (end - 512 * run.start) false)) → IsWrittenUpTo size tried runs (i + 1) end new
    write_step mid new end is_end is_mid is_new =
        let r = run_at size from up.low run (drop (i + 1) runs) rises_here up.there within_here in
        let gap : List Block = rescued_between from (512 * run.start) in
        let lost : List ℕ = ended (block_line tried (block (512 * run.start) (end - 512 * run.start) false)) in
        let more : List ℕ = lines_text tried (blocks_from size end (drop (i + 1) runs)) in
        let all : lines_text tried (blocks_from size from (drop i runs)) ≡ lines_text tried (rescued_between from (512 * run.start)) ++ (ended (block_line tried (block (512 * run.start) (end - 512 * run.start) false)) ++ lines_text tried (blocks_from size end (drop (i + 1) runs))) =
        ap (λ (rs : List Run). lines_text tried (blocks_from size from rs)) rest_is
        ∙ ap (λ (e : ℕ). lines_text tried (rescued_between from (512 * run.start) ++ (block (512 * run.start) (e - 512 * run.start) false ∷ blocks_from size e (drop (i + 1) runs)))) (sym is_end)
        ∙ flat_map-append (λ b. ended (block_line tried b)) (rescued_between from (512 * run.start)) (block (512 * run.start) (end - 512 * run.start) false ∷ blocks_from size end (drop (i + 1) runs)) in
        record {
          written = ap (λ (xs : List ℕ). xs ++ more) (is_new ∙ ap (λ (xs : List ℕ). xs ++ lost) is_mid)
              ∙ append_assoc (text ++ lines_text tried gap) lost more ∙ append_assoc text (lines_text tried gap) (lost ++ more) ∙ ap (λ (xs : List ℕ). text ++ xs) (sym all) ∙ up.written;
          low = run.start + run.len + 1;
          rises = rises_here.3;
          there = omega (arith, is_end, r.next);
          fits = omega (arith, is_end, r.within);
          within = λ s bad. within_here s (inr bad);
        }

  pub write_end : (new : List ℕ) → length runs ≤ i → new ≡ text ++ lines_text tried (rescued_between from size) → new ≡ map_text size tried runs
  write_end new past is =
      let none : drop i runs ≡ [] = drop_all i runs past in
      is ∙ ap (λ (rs : List Run). text ++ lines_text tried (blocks_from size from rs)) (sym none) ∙ up.written
