-- No map is refused: what a refusal says and what a map says exclude each other.
use Rattle.std.proofs.Common.{◌≡◌, ℕ, ◌+◌, ◌≤◌, Bool, true, false, cond, not, ltb, is_some, List, [], ◌∷◌, ◌++◌, length, map, Option, Some, None, refl, ap, sym, subst, ◌∙◌, arith}
use Rattle.std.specs.List.{filter}
use Rattle.std.specs.Option.{option_map, option_to_list}
use Rattle.std.proofs.lemmas.List.{map-append, append_cancel_right}
use Rattle.std.proofs.lemmas.List.Elements.{filter-append}
use Rattle.std.proofs.lemmas.Bool.{lt-ltb, le-ltb, and_from}
use Rattle.md_files.specs.Masks.Maps.Lines.{lines_of, fields_of}
use Rattle.md_files.specs.Masks.Maps.Numbers.{number_of, is_positive}
use Rattle.md_files.specs.Masks.Maps.Rows.{rescued_of, is_current_status, pass_of, IsStatusRow, IsBlockRow, place_fault, block_fault, status_fault, line_fault_of}
use Rattle.md_files.specs.Masks.Maps.Map.{is_row, rows_of, AreBlocks, IsSaid, end_of_blocks, IsMap, IsFaultOf, IsFaultless, IsMapRefused}
use Rattle.md_files.specs.declared.masks.maps.line.Block.{Block}
use Rattle.md_files.specs.declared.masks.maps.fault.LineFault.{LineFault}
use Rattle.md_files.specs.declared.masks.maps.fault.LineFault.TheVariants.{Number, Status}
use Rattle.md_files.specs.declared.masks.maps.fault.MapFault.{MapFault}
use Rattle.md_files.specs.declared.masks.maps.fault.MapFault.TheVariants.{Line, NoStatusLine, EndsAt, NoMemory}
use Rattle.md_files.proofs.MaskLemmas.MapLemmas.Lines.{end-cons}

-- ---- lists that are one list

last_same : (xs ys : List (List ℕ)) (x y : List ℕ) → xs ++ x ∷ [] ≡ ys ++ y ∷ [] → x ≡ y
last_same [] [] x y same = cc
last_same [] (b ∷ []) x y same = let wrong : ⊥ = cc in absurd wrong
last_same [] (b ∷ c ∷ ys) x y same = let wrong : ⊥ = cc in absurd wrong
last_same (a ∷ []) [] x y same = let wrong : ⊥ = cc in absurd wrong
last_same (a ∷ c ∷ xs) [] x y same = let wrong : ⊥ = cc in absurd wrong
last_same (a ∷ xs) (b ∷ ys) x y same = let rest : xs ++ x ∷ [] ≡ ys ++ y ∷ [] = cc in last_same xs ys x y rest

-- a list that goes on past an element has it before its last one
within : (xs zs ys : List (List ℕ)) (x y z : List ℕ) → xs ++ x ∷ y ∷ ys ≡ zs ++ z ∷ [] → (ws : List (List ℕ)) × (zs ≡ xs ++ x ∷ ws)
within [] [] ys x y z same = let wrong : ⊥ = cc in absurd wrong
within [] (b ∷ zs) ys x y z same = let here : x ≡ b = cc in (zs, cc)
within (a ∷ []) [] ys x y z same = let wrong : ⊥ = cc in absurd wrong
within (a ∷ c ∷ xs) [] ys x y z same = let wrong : ⊥ = cc in absurd wrong
within (a ∷ xs) (b ∷ zs) ys x y z same =
    let rest : xs ++ x ∷ y ∷ ys ≡ zs ++ z ∷ [] = cc in
    let here : a ≡ b = cc in
    let more = within xs zs ys x y z rest in
    let is : zs ≡ xs ++ x ∷ more.0 = more.1 in (more.0, cc)

-- ---- rows without a fault

status_said : (size : ℕ) (a b : List ℕ) (c : Option (List ℕ)) → line_fault_of size None (a ∷ b ∷ option_to_list c) ≡ status_fault (number_of a) (is_current_status b) (pass_of c)
unfolding line_fault_of
status_said size a b None = refl
status_said size a b (Some c) = refl

status_sound : (size : ℕ) (row : List (List ℕ)) → IsStatusRow row → line_fault_of size None row ≡ None
status_sound size row is =
    let both = and_from (is_some (number_of is.0)) (is_positive (pass_of is.2)) is.4 is.6 in
    ap (line_fault_of size None) is.3 ∙ status_said size is.0 is.1 is.2
    ∙ ap (λ (b : Bool). cond (not b) (Some Number) (cond (not (is_current_status is.1)) (Some Status) None)) both
    ∙ ap (λ (b : Bool). cond (not b) (Some Status) None) is.5

place_sound : (size from start len : ℕ) → start ≡ from → start + len ≤ size → place_fault size from start len ≡ None
place_sound size from start len at fits =
    let a : ltb start from ≡ false = le-ltb start from (omega (arith, at)) in
    let b : ltb from start ≡ false = le-ltb from start (omega (arith, at)) in
    let c : ltb size (start + len) ≡ false = le-ltb size (start + len) fits in
    rw (a, b, c) refl

block_sound : (size from : ℕ) (row : List (List ℕ)) (b : Block) → IsBlockRow row b → b.start ≡ from → b.start + b.len ≤ size → line_fault_of size (Some from) row ≡ None
unfolding line_fault_of
block_sound size from row b is at fits =
    ap (line_fault_of size (Some from)) is.3
    ∙ ap (λ (o : Option ℕ). block_fault size from o (number_of is.1) (rescued_of is.2)) is.4
    ∙ ap (λ (o : Option ℕ). block_fault size from (Some b.start) o (rescued_of is.2)) is.5
    ∙ ap (block_fault size from (Some b.start) (Some b.len)) is.6
    ∙ place_sound size from b.start b.len at fits

-- ---- rows say one thing

len_same : (row : List (List ℕ)) (b c : Block) → IsBlockRow row b → IsBlockRow row c → b.len ≡ c.len
len_same row b c is js =
    let rows : is.0 ∷ is.1 ∷ is.2 ∷ [] ≡ js.0 ∷ js.1 ∷ js.2 ∷ [] = sym is.3 ∙ js.3 in
    let size : is.1 ≡ js.1 = cc in
    let both : Some b.len ≡ Some c.len = sym is.5 ∙ ap number_of size ∙ js.5 in cc

ends_same : (size from at : ℕ) (rows : List (List (List ℕ))) (bs cs : List Block) → AreBlocks size from rows bs → AreBlocks size at rows cs → end_of_blocks bs ≡ end_of_blocks cs
ends_same size from at [] [] [] are also = refl
ends_same size from at [] (b ∷ bs) cs are also = absurd are
ends_same size from at [] [] (c ∷ cs) are also = absurd also
ends_same size from at (r ∷ rs) [] cs are also = absurd are
ends_same size from at (r ∷ rs) (b ∷ bs) [] are also = absurd also
ends_same size from at (r ∷ rs) (b ∷ bs) (c ∷ cs) are also =
    let here = len_same r b c are.0 also.0 in
    let rest = ends_same size (from + b.len) (at + c.len) rs bs cs are.3 also.3 in
    omega (arith, end-cons b bs, end-cons c cs, here, rest)

-- a row after those of some blocks is that of a block, at their end
next_sound : (size from : ℕ) (rows more : List (List (List ℕ))) (row : List (List ℕ)) (bs cs : List Block) → AreBlocks size from rows bs → AreBlocks size from (rows ++ row ∷ more) cs → line_fault_of size (Some (from + end_of_blocks bs)) row ≡ None
next_sound size from [] more row [] [] are all = absurd all
next_sound size from [] more row [] (c ∷ cs) are all = block_sound size (from + end_of_blocks []) row c all.0 (omega (arith, all.1)) (omega (arith, all.1, all.2))
next_sound size from [] more row (b ∷ bs) cs are all = absurd are
next_sound size from (r ∷ rs) more row [] cs are all = absurd are
next_sound size from (r ∷ rs) more row (b ∷ bs) [] are all = absurd all
next_sound size from (r ∷ rs) more row (b ∷ bs) (c ∷ cs) are all =
    let here : c.len ≡ b.len = len_same r c b all.0 are.0 in
    let rest = next_sound size (from + b.len) rs more row bs cs are.3 (subst (λ (n : ℕ). AreBlocks size (from + n) (rs ++ row ∷ more) cs) here all.3) in
    let place : from + b.len + end_of_blocks bs ≡ from + end_of_blocks (b ∷ bs) = omega (arith, end-cons b bs) in
    subst (λ (n : ℕ). line_fault_of size (Some n) row ≡ None) place rest

said_sound : (size : ℕ) (rows more : List (List (List ℕ))) (row : List (List ℕ)) (before : Option (List Block)) (blocks : List Block) → IsSaid size rows before → IsSaid size (rows ++ row ∷ more) (Some blocks) → line_fault_of size (option_map end_of_blocks before) row ≡ None
said_sound size [] more row None blocks said all = status_sound size row all.0
said_sound size [] more row (Some bs) blocks said all = absurd said
said_sound size (r ∷ rs) more row None blocks said all = absurd said
said_sound size (r ∷ rs) more row (Some bs) blocks said all =
    let place : 0 + end_of_blocks bs ≡ end_of_blocks bs = omega arith in
    subst (λ (n : ℕ). line_fault_of size (Some n) row ≡ None) place (next_sound size 0 rs more row bs blocks said.1 all.1)

blank_sound : (size : ℕ) (end : Option ℕ) → line_fault_of size end [] ≡ None
unfolding line_fault_of
blank_sound size None = refl
blank_sound size (Some from) = refl

line_sound : (size : ℕ) (lines ws : List (List ℕ)) (row : List (List ℕ)) (before : Option (List Block)) (blocks : List Block) → IsSaid size (rows_of lines) before
    → IsSaid size (rows_of lines ++ filter is_row (row ∷ map fields_of ws)) (Some blocks) → line_fault_of size (option_map end_of_blocks before) row ≡ None
line_sound size lines ws [] before blocks said all = blank_sound size (option_map end_of_blocks before)
line_sound size lines ws (f ∷ fs) before blocks said all =
    let some : is_row (f ∷ fs) ≡ true = lt-ltb 0 (length (f ∷ fs)) (omega arith) in
    said_sound size (rows_of lines) (filter is_row (map fields_of ws)) (f ∷ fs) before blocks said
    (subst (λ (b : Bool). IsSaid size (rows_of lines ++ cond b ((f ∷ fs) ∷ filter is_row (map fields_of ws)) (filter is_row (map fields_of ws))) (Some blocks)) some all)

rows_then : (lines : List (List ℕ)) (line : List ℕ) (ws : List (List ℕ)) → rows_of (lines ++ line ∷ ws) ≡ rows_of lines ++ filter is_row (fields_of line ∷ map fields_of ws)
unfolding rows_of
rows_then lines line ws = ap (filter is_row) (map-append fields_of lines (line ∷ ws)) ∙ filter-append is_row (map fields_of lines) (fields_of line ∷ map fields_of ws)

-- ---- a map has no fault

module _ (size : ℕ) (text : List ℕ) (blocks : List Block) (map_is : IsMap size text blocks) where
  no_line_fault : (number : ℕ) (fault : LineFault) (lines : List (List ℕ)) (line : List ℕ) (rest : List (List ℕ)) (before : Option (List Block))
      → lines_of text ≡ lines ++ line ∷ rest → IsSaid size (rows_of lines) before → IsFaultOf size before line rest fault → ⊥
  no_line_fault number fault lines line [] before whole said stands = stands.0 (last_same lines map_is.lines line [] (sym whole ∙ map_is.whole))
  no_line_fault number fault lines line (y ∷ ys) before whole said stands =
      let at = within lines map_is.lines ys line y [] (sym whole ∙ map_is.whole) in
      let all = subst (λ (rows : List (List (List ℕ))). IsSaid size rows (Some blocks)) (ap rows_of at.1 ∙ rows_then lines line at.0) map_is.said in
      let none : line_fault_of size (option_map end_of_blocks before) (fields_of line) ≡ None = line_sound size lines at.0 (fields_of line) before blocks said all in
      let wrong : None ≡ Some fault = sym none ∙ stands in let no : ⊥ = cc in no

  said_none_not : (rows : List (List (List ℕ))) → IsSaid size rows None → IsSaid size rows (Some blocks) → ⊥
  said_none_not [] none some = some
  said_none_not (r ∷ rs) none some = none

  said_ends : (rows : List (List (List ℕ))) (cs : List Block) → IsSaid size rows (Some cs) → IsSaid size rows (Some blocks) → end_of_blocks cs ≡ end_of_blocks blocks
  said_ends [] cs is also = absurd is
  said_ends (r ∷ rs) cs is also = ends_same size 0 0 rs cs blocks is.1 also.1

  faultless_lines : (said : Option (List Block)) → IsFaultless size text said → IsSaid size (rows_of map_is.lines) said
  faultless_lines said f =
      subst (λ (ls : List (List ℕ)). IsSaid size (rows_of ls) said) (append_cancel_right f.lines map_is.lines ([] ∷ []) (sym f.whole ∙ map_is.whole)) f.rows

  pub only_memory : (fault : MapFault) → IsMapRefused size text fault → fault ≡ NoMemory
  only_memory (Line number fault) f = absurd (no_line_fault number fault f.lines f.line f.rest f.before f.whole f.said f.stands)
  only_memory NoStatusLine f = absurd (said_none_not (rows_of map_is.lines) (faultless_lines None f) map_is.said)
  only_memory (EndsAt e) f = let same = said_ends (rows_of map_is.lines) f.0 (faultless_lines (Some f.0) f.1) map_is.said in absurd (omega (arith, same, f.2, f.3, map_is.full))
  only_memory NoMemory f = refl
