-- Lemmas on a text that is read line by line.
use Rattle.std.proofs.Common.{◌≡◌, ◌≢◌, ℕ, ◌+◌, ◌-◌, ◌*◌, ◌/◌, ◌^◌, ◌<◌, ◌≤◌, ◌⊎◌, ◌↔◌, ⊎_elim, inl, inr, Bool, true, cond, List, [], ◌∷◌, ◌++◌, append_assoc, length, map, max, take, drop, Option, Some, None, position, unwrap_or, Result, Ok, Err, IfOk, IfErr, IsOkAnd, refl, ap, sym, subst, ◌∙◌, arith, length-append, length-drop}
use Rattle.std.specs.List.{slice_split, filter, position_or_len}
use Rattle.std.specs.Option.{option_map, option_to_list}
use Rattle.std.proofs.lemmas.List.{map-append, append-nil}
use Rattle.std.proofs.lemmas.List.Elements.{filter-append}
use Rattle.std.proofs.lemmas.Bool.{lt-ltb}
use Rattle.std.proofs.lemmas.Result.{IfOk-weaker, MatchResult-weaker}
use Rattle.std.proofs.lemmas.List.Sums.{sum_by-append, fails_before_first}
use Rattle.std.proofs.lemmas.List.Splits.{slice_split_first, slice_split_none, length-slice_split}
use Rattle.std.proofs.lemmas.Grind.{common_steps}
use Rattle.md_badblocks.specs.declared.run.Run.{Run}
use Rattle.md_badblocks.specs.Runs.{IsBad}
use Rattle.md_files.specs.Masks.Maps.Lines.{is_line_feed, lines_of, fields_of}
use Rattle.md_files.specs.Masks.Maps.Rows.{IsStatusRow, IsBlockRow, IsLine, BlockEndsBy, line_fault_of}
use Rattle.md_files.specs.Masks.Maps.Map.{is_row, rows_of, AreBlocks, IsSaid, end_of_blocks, IsMap, HasByte, IsLostIn, IsMissing, IsMapReadAs, IsFirstLineFault, IsMapRefused}
use Rattle.md_files.specs.Masks.Maps.Reading.{IsReadTo, IsUnfinished}
use Rattle.md_files.specs.declared.masks.maps.line.Block.{Block}
use Rattle.md_files.specs.declared.masks.maps.line.Line.{Line as LineValue}
use Rattle.md_files.specs.declared.masks.maps.line.Line.TheVariants.{Blank, Status, Data}
use Rattle.md_files.specs.declared.masks.maps.fault.LineFault.{LineFault}
use Rattle.md_files.specs.declared.masks.maps.fault.LineFault.TheVariants.{Cut}
use Rattle.md_files.specs.declared.masks.maps.fault.MapFault.{MapFault}
use Rattle.md_files.specs.declared.masks.maps.fault.MapFault.TheVariants.{Line, NoStatusLine, EndsAt, NoMemory}
use Rattle.md_files.proofs.MaskLemmas.MapLemmas.Words.{position_none}

-- ---- the lines of a text

first_is : (p : ℕ → Bool) (xs : List ℕ) (i : ℕ) → position p xs ≡ Some i → (position_or_len p xs ≡ i) × (i < length xs)
first_is p xs i e = (grind (arith, common_steps), grind (arith, common_steps))

pub lines-first : (text : List ℕ) (n : ℕ) → position is_line_feed text ≡ Some n → lines_of text ≡ take n text ∷ lines_of (drop (n + 1) text)
unfolding lines_of
lines-first text n found =
    let at = first_is is_line_feed text n found in
    slice_split_first is_line_feed text 0 (omega (arith, at.0, at.1)) ∙ ap (λ (i : ℕ). take i text ∷ slice_split is_line_feed (drop (i + 1) text)) at.0

pub lines-last : (text : List ℕ) → position is_line_feed text ≡ None → lines_of text ≡ text ∷ []
unfolding lines_of
lines-last text none =
    slice_split_none is_line_feed text (λ k d below. fails_before_first is_line_feed text k d (let past : length text ≤ position_or_len is_line_feed text = position_none is_line_feed text none in omega (arith, past, below)))

-- ---- what lines say, with one more

rows-push : (lines : List (List ℕ)) (line : List ℕ) → rows_of (lines ++ line ∷ []) ≡ rows_of lines ++ filter is_row (fields_of line ∷ [])
unfolding rows_of
rows-push lines line = ap (filter is_row) (map-append fields_of lines (line ∷ [])) ∙ filter-append is_row (map fields_of lines) (fields_of line ∷ [])

rows-blank : (lines : List (List ℕ)) (line : List ℕ) → fields_of line ≡ [] → rows_of (lines ++ line ∷ []) ≡ rows_of lines
rows-blank lines line blank = rows-push lines line ∙ ap (λ (row : List (List ℕ)). rows_of lines ++ filter is_row (row ∷ [])) blank ∙ append-nil (rows_of lines)

rows-some : (lines : List (List ℕ)) (line a : List ℕ) (more : List (List ℕ)) → fields_of line ≡ a ∷ more → rows_of (lines ++ line ∷ []) ≡ rows_of lines ++ fields_of line ∷ []
rows-some lines line a more some =
    rows-push lines line ∙ ap (λ (row : List (List ℕ)). rows_of lines ++ filter is_row (row ∷ [])) some ∙ test (suc_some a more) ∙ ap (λ (row : List (List ℕ)). rows_of lines ++ row ∷ []) (sym some)
  where
    suc_some : (x : List ℕ) (xs : List (List ℕ)) → is_row (x ∷ xs) ≡ true
    suc_some x xs = lt-ltb 0 (length (x ∷ xs)) (omega arith)

    test : is_row (a ∷ more) ≡ true → rows_of lines ++ filter is_row ((a ∷ more) ∷ []) ≡ rows_of lines ++ (a ∷ more) ∷ []
    test h = ap (λ (b : Bool). rows_of lines ++ cond b ((a ∷ more) ∷ []) []) h

pub end-cons : (x : Block) (xs : List Block) → end_of_blocks (x ∷ xs) ≡ x.len + end_of_blocks xs
end-cons x xs = let e = sum_by-append (λ (y : Block). y.len) (x ∷ []) xs in omega (arith, e)

blocks-push : (size from : ℕ) (rows : List (List (List ℕ))) (blocks : List Block) (row : List (List ℕ)) (b : Block) → AreBlocks size from rows blocks
    → IsBlockRow row b → b.start ≡ from + end_of_blocks blocks → b.start + b.len ≤ size → AreBlocks size from (rows ++ row ∷ []) (blocks ++ b ∷ [])
blocks-push size from [] [] row b are is at fits = (is, omega (arith, at), omega (arith, at, fits), tt)
blocks-push size from [] (x ∷ xs) row b are is at fits = absurd are
blocks-push size from (r ∷ rs) [] row b are is at fits = absurd are
blocks-push size from (r ∷ rs) (x ∷ xs) row b are is at fits =
    (are.0, are.1, are.2, blocks-push size (from + x.len) rs xs row b are.3 is (omega (arith, at, end-cons x xs)) fits)

blocks_end : (size from : ℕ) (rows : List (List (List ℕ))) (blocks : List Block) → AreBlocks size from rows blocks → from ≤ size → from + end_of_blocks blocks ≤ size
blocks_end size from [] [] are low = omega (arith, low)
blocks_end size from [] (x ∷ xs) are low = absurd are
blocks_end size from (r ∷ rs) [] are low = absurd are
blocks_end size from (r ∷ rs) (x ∷ xs) are low = let more = blocks_end size (from + x.len) rs xs are.3 are.2 in omega (arith, more, end-cons x xs)

said-push : (size : ℕ) (rows : List (List (List ℕ))) (blocks : List Block) (row : List (List ℕ)) (b : Block) → IsSaid size rows (Some blocks)
    → IsBlockRow row b → b.start ≡ end_of_blocks blocks → b.start + b.len ≤ size → IsSaid size (rows ++ row ∷ []) (Some (blocks ++ b ∷ []))
said-push size [] blocks row b said is at fits = absurd said
said-push size (r ∷ rs) blocks row b said is at fits = (said.0, blocks-push size 0 rs blocks row b said.1 is (omega (arith, at)) fits)

said_end : (size : ℕ) (rows : List (List (List ℕ))) (blocks : List Block) → IsSaid size rows (Some blocks) → end_of_blocks blocks ≤ size
said_end size [] blocks said = absurd said
said_end size (r ∷ rs) blocks said = let all = blocks_end size 0 rs blocks said.1 (omega arith) in omega (arith, all)

said_none : (size : ℕ) (rows : List (List (List ℕ))) → IsSaid size rows None → rows ≡ []
said_none size [] said = refl
said_none size (r ∷ rs) said = absurd said

missing-push : (blocks : List Block) (b : Block) (s : ℕ) → IsMissing (blocks ++ b ∷ []) s ↔ (IsMissing blocks s ⊎ IsLostIn b s)
missing-push [] b s = (λ h. ⊎_elim (λ x. inr x) (λ x. absurd x) h, λ h. ⊎_elim (λ x. absurd x) (λ x. inl x) h)
missing-push (x ∷ xs) b s =
    let rest = missing-push xs b s in (
      λ h. ⊎_elim (λ a. inl (inl a)) (λ a. ⊎_elim (λ c. inl (inr c)) (λ c. inr c) (rest.0 a)) h,
      λ h. ⊎_elim (λ a. ⊎_elim (λ c. inl c) (λ c. inr (rest.1 (inl c))) a) (λ a. inr (rest.1 (inr a))) h,
    )

-- ---- a line more

module _ {E : Type 0} (size : ℕ) (lines : List (List ℕ)) (line : List ℕ) where
  pub after_blank : (end : Option ℕ) (missing : Result (List Run) E) → fields_of line ≡ [] → IsReadTo size lines end missing → IsReadTo size (lines ++ line ∷ []) end missing
  after_blank end missing blank read = record {
    blocks = read.blocks;
    said = subst (λ (rows : List (List (List ℕ))). IsSaid size rows read.blocks) (sym (rows-blank lines line blank)) read.said;
    there = read.there;
    lacks = read.lacks;
  }

  status_more : (missing : Result (List Run) E) (blocks : Option (List Block)) → IsSaid size (rows_of lines) blocks → None ≡ option_map end_of_blocks blocks
      → IfOk missing (λ runs. (sector : ℕ) → IsBad runs sector ↔ IsMissing (unwrap_or blocks []) sector) → IsStatusRow (fields_of line) → IsReadTo size (lines ++ line ∷ []) (Some 0) missing
  status_more missing None said there lacks is =
      let rows : rows_of (lines ++ line ∷ []) ≡ fields_of line ∷ [] = rows-some lines line is.0 (is.1 ∷ option_to_list is.2) is.3 ∙ ap (λ (rs : List (List (List ℕ))). rs ++ fields_of line ∷ []) (said_none size (rows_of lines) said) in
      record {
        blocks = Some [];
        said = subst (λ (rs : List (List (List ℕ))). IsSaid size rs (Some [])) (sym rows) (is, tt);
        there = refl;
        lacks = lacks;
      }
  status_more missing (Some blocks) said there lacks is = let wrong : ⊥ = cc in absurd wrong

  pub after_status : (end : Option ℕ) (missing : Result (List Run) E) → end ≡ None → IsStatusRow (fields_of line) → IsReadTo size lines end missing → IsReadTo size (lines ++ line ∷ []) (Some 0) missing
  after_status end missing none is read = status_more missing read.blocks read.said (sym none ∙ read.there) read.lacks is

  lacks_more : (new old : Result (List Run) E) (blocks : List Block) (b : Block)
      → IfOk new (λ runs. IsOkAnd old (λ before. (sector : ℕ) → IsBad runs sector ↔ (IsBad before sector ⊎ IsLostIn b sector)))
      → IfOk old (λ runs. (sector : ℕ) → IsBad runs sector ↔ IsMissing blocks sector) → IfOk new (λ runs. (sector : ℕ) → IsBad runs sector ↔ IsMissing (blocks ++ b ∷ []) sector)
  lacks_more (Ok new) (Ok old) blocks b more lacks =
      λ s. (
        λ h. (missing-push blocks b s).1 (⊎_elim (λ x. inl ((lacks s).0 x)) (λ x. inr x) ((more s).0 h)),
        λ h. (more s).1 (⊎_elim (λ x. inl ((lacks s).1 x)) (λ x. inr x) ((missing-push blocks b s).0 h)),
      )
  lacks_more (Ok new) (Err e) blocks b more lacks = absurd more
  lacks_more (Err e) old blocks b more lacks = tt

  data_more : (new old : Result (List Run) E) (b : Block) (blocks : Option (List Block)) → IsSaid size (rows_of lines) blocks → Some b.start ≡ option_map end_of_blocks blocks
      → IfOk old (λ runs. (sector : ℕ) → IsBad runs sector ↔ IsMissing (unwrap_or blocks []) sector) → IsBlockRow (fields_of line) b → b.start + b.len ≤ size
      → IfOk new (λ runs. IsOkAnd old (λ before. (sector : ℕ) → IsBad runs sector ↔ (IsBad before sector ⊎ IsLostIn b sector)))
      → IsReadTo size (lines ++ line ∷ []) (Some (b.start + b.len)) new
  data_more new old b None said there lacks is fits more = let wrong : ⊥ = cc in absurd wrong
  data_more new old b (Some blocks) said there lacks is fits more =
      let at : b.start ≡ end_of_blocks blocks = cc in
      record {
        blocks = Some (blocks ++ b ∷ []);
        said = subst (λ (rs : List (List (List ℕ))). IsSaid size rs (Some (blocks ++ b ∷ []))) (sym (rows-some lines line is.0 (is.1 ∷ is.2 ∷ []) is.3)) (said-push size (rows_of lines) blocks (fields_of line) b said is at fits);
        there = ap Some (ap (λ (n : ℕ). n + b.len) at ∙ end_more blocks b);
        lacks = lacks_more new old blocks b more lacks;
      }
    where
      end_more : (xs : List Block) (x : Block) → end_of_blocks xs + x.len ≡ end_of_blocks (xs ++ x ∷ [])
      end_more xs x = let e = sum_by-append (λ (y : Block). y.len) xs (x ∷ []) in omega (arith, e)

  pub after_data : (end : Option ℕ) (new old : Result (List Run) E) (b : Block) → end ≡ Some b.start → IsBlockRow (fields_of line) b → b.start + b.len ≤ size
      → IfOk new (λ runs. IsOkAnd old (λ before. (sector : ℕ) → IsBad runs sector ↔ (IsBad before sector ⊎ IsLostIn b sector)))
      → IsReadTo size lines end old → IsReadTo size (lines ++ line ∷ []) (Some (b.start + b.len)) new
  after_data end new old b there is fits more read = data_more new old b read.blocks read.said (sym there ∙ read.there) read.lacks is fits more

-- ---- bytes and sectors

sectors_of : (start len s : ℕ) → 0 < len → start + len ≤ 2 ^ 63 → ((start / 512 ≤ s) × (s < start / 512 + ((start + len - 1) / 512 - start / 512 + 1)) × (s < 2 ^ 54)) → HasByte start len s
sectors_of start len s some fits within =
    (max start (512 * s), omega arith, omega (arith, some, within.0, within.1), omega (arith, some, within.0, within.1))

sector_in : (start len s : ℕ) → start + len ≤ 2 ^ 63 → HasByte start len s → (start / 512 ≤ s) × (s < start / 512 + ((start + len - 1) / 512 - start / 512 + 1)) × (s < 2 ^ 54)
sector_in start len s fits has =
    let k : ℕ = has.0 in
    (omega (arith, has.1, has.2, has.3), omega (arith, has.1, has.2, has.3), omega (arith, fits, has.1, has.2, has.3))

pub added_bytes : (start len : ℕ) (old new : List Run) → 0 < len → start + len ≤ 2 ^ 63
    → ((s : ℕ) → IsBad new s ↔ (IsBad old s ⊎ ((start / 512 ≤ s) × (s < start / 512 + ((start + len - 1) / 512 - start / 512 + 1)) × (s < 2 ^ 54))))
    → (s : ℕ) → IsBad new s ↔ (IsBad old s ⊎ HasByte start len s)
added_bytes start len old new some fits added s = (
  λ h. ⊎_elim (λ x. inl x) (λ x. inr (sectors_of start len s some fits x)) ((added s).0 h),
  λ h. (added s).1 (⊎_elim (λ x. inl x) (λ x. inr (sector_in start len s fits x)) h),
)

pub no_bytes : (start : ℕ) (old : List Run) (s : ℕ) → IsBad old s ↔ (IsBad old s ⊎ HasByte start 0 s)
no_bytes start old s = (λ h. inl h, λ h. ⊎_elim (λ x. x) (λ x. absurd (omega (arith, x.1, x.2))) h)

-- ---- the end

pub ends_by : (size : ℕ) (end : Option ℕ) (row : List (List ℕ)) (line : LineValue) → IsLine size end row line → size ≤ 2 ^ 63 → BlockEndsBy (2 ^ 63) line
ends_by size end row Blank is small = tt
ends_by size end row Status is small = tt
ends_by size end row (Data b) is small = omega (arith, is.2, small)

-- all lines up to a place of the text are read
pub record IsReadUpTo {E : Type 0} (size : ℕ) (text rest : List ℕ) (number : ℕ) (end : Option ℕ) (missing : Result (List Run) E) : Type 0 where
  pub lines : List (List ℕ)
  pub read : IsReadTo size lines end missing
  pub whole : lines_of text ≡ lines ++ lines_of rest
  pub numbered : number ≡ length lines + 1
  pub few : number + length rest ≤ length text + 1

pub read_start : {E : Type 0} (size : ℕ) (text : List ℕ) (runs : List Run) → runs ≡ [] → IsReadUpTo {E = E} size text text 1 None (Ok runs)
unfolding rows_of
read_start size text runs none = record {
  lines = [];
  read = record {
    blocks = None;
    said = tt;
    there = refl;
    lacks = λ s. (λ h. let B : List Run → Type 0 = λ rs. IsBad rs s in subst B none h, λ h. absurd h);
  };
  whole = refl;
  numbered = refl;
  few = omega arith;
}

list_some : (xs : List (List ℕ)) → 0 < length xs → (y : List ℕ) × (ys : List (List ℕ)) × (xs ≡ y ∷ ys)
list_some [] some = absurd (omega arith)
list_some (x ∷ xs) some = (x, xs, refl)

lines_some : (text : List ℕ) → 0 < length (lines_of text)
unfolding lines_of
lines_some text = omega (arith, length-slice_split is_line_feed text)

blocks_at : (e : ℕ) (blocks : Option (List Block)) → Some e ≡ option_map end_of_blocks blocks → (bs : List Block) × (blocks ≡ Some bs) × (end_of_blocks bs ≡ e)
blocks_at e None there = let wrong : ⊥ = cc in absurd wrong
blocks_at e (Some bs) there = (bs, refl, cc)

none_at : (blocks : Option (List Block)) → None ≡ option_map end_of_blocks blocks → blocks ≡ None
none_at None there = refl
none_at (Some bs) there = let wrong : ⊥ = cc in absurd wrong

module _ {E : Type 0} (size : ℕ) (text rest : List ℕ) (number : ℕ) (end : Option ℕ) (missing : Result (List Run) E) (read : IsReadUpTo size text rest number end missing) where
  pub read_step : (n : ℕ) (line after : List ℕ) (end' : Option ℕ) (missing' : Result (List Run) E) → position is_line_feed rest ≡ Some n → line ≡ take n rest → after ≡ drop (n + 1) rest
      → IsReadTo size (read.lines ++ line ∷ []) end' missing' → IsReadUpTo size text after (number + 1) end' missing'
  read_step n line after end' missing' found is_line is_after next =
      let step : lines_of rest ≡ line ∷ lines_of after = lines-first rest n found ∙ ap (λ (l : List ℕ). l ∷ lines_of (drop (n + 1) rest)) (sym is_line) ∙ ap (λ (r : List ℕ). line ∷ lines_of r) (sym is_after) in
      let at = first_is is_line_feed rest n found in
      let shorter : length after + n + 1 ≡ length rest = ap (λ (xs : List ℕ). length xs + n + 1) is_after ∙ simp (length-drop) (omega (arith, at.1)) in
      record {
        lines = read.lines ++ line ∷ [];
        read = next;
        whole = read.whole ∙ ap (λ (ls : List (List ℕ)). read.lines ++ ls) step ∙ sym (append_assoc read.lines (line ∷ []) (lines_of after));
        numbered = simp (length-append) (omega (arith, read.numbered));
        few = omega (arith, shorter, read.few);
      }

  pub fault_at : (n : ℕ) (line : List ℕ) (fault : LineFault) → position is_line_feed rest ≡ Some n → line ≡ take n rest → line_fault_of size end (fields_of line) ≡ Some fault → IsFirstLineFault size text number fault
  fault_at n line fault found is_line stands =
      let more = list_some (lines_of (drop (n + 1) rest)) (lines_some (drop (n + 1) rest)) in
      record {
        lines = read.lines;
        line = line;
        rest = more.0 ∷ more.1;
        whole = read.whole ∙ ap (λ (ls : List (List ℕ)). read.lines ++ ls) (lines-first rest n found ∙ ap (λ (l : List ℕ). l ∷ lines_of (drop (n + 1) rest)) (sym is_line) ∙ ap (λ (ls : List (List ℕ)). line ∷ ls) more.2);
        numbered = read.numbered;
        before = read.read.blocks;
        said = read.read.said;
        stands = ap (λ (e : Option ℕ). line_fault_of size e (fields_of line)) (sym read.read.there) ∙ stands;
      }

  pub cut_at : position is_line_feed rest ≡ None → rest ≢ [] → IsFirstLineFault size text number Cut
  cut_at none some = record {
    lines = read.lines;
    line = rest;
    rest = [];
    whole = read.whole ∙ ap (λ (ls : List (List ℕ)). read.lines ++ ls) (lines-last rest none);
    numbered = read.numbered;
    before = read.read.blocks;
    said = read.read.said;
    stands = (some, refl);
  }

  module _ (none : position is_line_feed rest ≡ None) (all : rest ≡ []) where
    ended : lines_of text ≡ read.lines ++ [] ∷ []
    ended = read.whole ∙ ap (λ (ls : List (List ℕ)). read.lines ++ ls) (lines-last rest none ∙ ap (λ (l : List ℕ). l ∷ []) all)

    map_of : (e : ℕ) → end ≡ Some e → (bs : List Block) × (read.read.blocks ≡ Some bs) × (end_of_blocks bs ≡ e) × IsSaid size (rows_of read.lines) (Some bs)
    map_of e there =
        let at = blocks_at e read.read.blocks (sym there ∙ read.read.there) in
        (at.0, at.1, at.2, subst (λ (o : Option (List Block)). IsSaid size (rows_of read.lines) o) at.1 read.read.said)

    is_map : (e : ℕ) → end ≡ Some e → size ≤ e → (bs : List Block) × (read.read.blocks ≡ Some bs) × IsMap size text bs
    is_map e there full =
        let at = map_of e there in
        let within : end_of_blocks at.0 ≤ size = said_end size (rows_of read.lines) at.0 at.3 in
        (at.0, at.1, record { lines = read.lines; whole = ended; said = at.3; full = omega (arith, within, full, at.2) })

    whole_map : (runs : List Run) → (missing ≡ Ok runs) × ((e : ℕ) × (end ≡ Some e) × (size ≤ e)) → IsMapReadAs size text runs
    whole_map runs done =
        let at = is_map done.1.0 done.1.1 done.1.2 in
        let lacks = rw (done.0, at.1) at read.read.lacks in
        record { blocks = at.0; map = at.2; lacks = lacks }

    pub finished : {F : Type 0} (r : Result (List Run) F) → IfOk r (λ runs. (missing ≡ Ok runs) × ((e : ℕ) × (end ≡ Some e) × (size ≤ e))) → IfOk r (λ runs. IsMapReadAs size text runs)
    finished r done = IfOk-weaker r _ _ whole_map done

    unfinished_by : (fault : MapFault) → IsUnfinished size end fault → IsMapRefused size text fault
    unfinished_by (Line n f) is = absurd is
    unfinished_by NoStatusLine is =
        record {
          lines = read.lines;
          whole = ended;
          rows = subst (λ (o : Option (List Block)). IsSaid size (rows_of read.lines) o) (none_at read.read.blocks (sym is ∙ read.read.there)) read.read.said;
        }
    unfinished_by (EndsAt e) is =
        let at = map_of e is.0 in
        (at.0, record { lines = read.lines; whole = ended; rows = at.3 }, at.2, is.1)
    unfinished_by NoMemory is = let at = is_map is.0 is.1 is.2 in (at.0, at.2)

    pub unfinished : {T : Type 0} (r : Result T MapFault) → IfErr r (λ fault. IsUnfinished size end fault) → IfErr r (λ fault. IsMapRefused size text fault)
    unfinished r is = MatchResult-weaker r is (λ x h. h) unfinished_by
