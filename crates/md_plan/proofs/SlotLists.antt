-- Chunks and rounds given out one after the other.
use Rattle.std.proofs.Common.{◌≡◌, ◌≢◌, ◌∙◌, ℕ, ◌+◌, ◌<◌, ◌≤◌, suc, Bool, true, false, cond, eqb, List, [], ◌∷◌, ◌++◌, length, get_or, set, take, drop, filter, map, refl, sym, ap, subst, arith, inl, inr, get_or-set_same, get_or-set_other, length-append}
use Rattle.std.specs.List.{list_all}
use Rattle.std.proofs.lemmas.Bool.{cases_eq, cases_lt, eqb-true, eq-eqb, ne_eqb}
use Rattle.std.proofs.lemmas.List.{get_or_default, get_or_append_left, length-set, map-append, append-nil}
use Rattle.std.proofs.lemmas.List.Elements.{All-push, filter_more}
use Rattle.std.proofs.lemmas.List.Sums.{sum_by-cons, sum_by-drop_more, sum_by-le-sum_by}
use Rattle.std.proofs.lemmas.List.Quantifiers.{all_pairs_push}
use Rattle.std.proofs.Math.Seq.{get_or-append_seam}
use Rattle.md_cert.specs.declared.table.Row.{Row}
use Rattle.md_cert.specs.declared.slots.Slot.{Slot}
use Rattle.md_cert.specs.Sources.{has}
use Rattle.md_cert.specs.Tables.{mask_of_chunk, orphans_of}
use Rattle.md_cert.specs.Plans.{NoRepeatBelow}
use Rattle.md_cert.proofs.Bits.{has_below}
use Rattle.md_cert.proofs.Masks.{Rises, mask_hit}
use Rattle.md_plan.specs.declared.cell.Cell.{Cell}
use Rattle.md_plan.specs.Cells.{AreAllowed, load_of, count_with}
use Rattle.md_plan.specs.Classes.{count_rows}
use Rattle.md_plan.specs.Slots.{SomeChunk, TakesOne, AreCountsLeft, IsSlotting}
use Rattle.md_plan.proofs.RowCounts.{passes, passes_none, passes_some}
use Rattle.md_plan.proofs.Zeros.{zeros}
use Rattle.md_plan.proofs.CellMoves.{share, share_le}

share_some : (b : Bool) (n : ℕ) → 0 < share b n → (b ≡ true) × (0 < n)
share_some true n lt = (refl, lt)
share_some false n lt = absurd (omega arith)

-- some cell has chunks, where there are any
pub some_chunk : (mask : ℕ) (cells : List Cell) → 0 < count_with (λ m. eqb m mask) cells → SomeChunk cells mask
some_chunk mask [] some = absurd (omega arith)
some_chunk mask (c ∷ rest) some =
    let e = sum_by-cons (λ (x : Cell). share (eqb x.mask mask) x.count) c rest in
    elim (cases_lt 0 (share (eqb c.mask mask) c.count)) [
      | inl here ↦
          let both = share_some (eqb c.mask mask) c.count here in
          record { at = 0; within = omega arith; has_chunks = λ d. record { some = both.1; mask_is = eqb-true c.mask mask both.0 } }
      | inr none ↦
          let there = some_chunk mask rest (omega (arith, e, some, none)) in
          record { at = suc there.at; within = let w : there.at < length rest = there.within in omega arith; has_chunks = there.has_chunks }
    ]

rows_drop : (q : ℕ → Bool) (rows : List Row) (i : ℕ) (d : Row) → i < length rows → count_rows q (drop i rows) ≡ share (passes q (get_or rows i d)) 1 + count_rows q (drop (i + 1) rows)
rows_drop q rows i d within = sum_by-drop_more (λ (r : Row). share (passes q r) 1) rows i d within

-- a row with a source finds a cell
pub left_some : (rows : List Row) (i : ℕ) (d : Row) (first cells : List Cell) (used : List ℕ) → i < length rows → ((get_or rows i d).mask ≡ 0 → ⊥) → AreCountsLeft rows i first cells used → SomeChunk cells (get_or rows i d).mask
left_some rows i d first cells used within some left =
    let mask = (get_or rows i d).mask in
    let q : ℕ → Bool = λ m. eqb m mask in
    let s = left.counts q in
    let e = rows_drop q rows i d within in
    let at : share (passes q (get_or rows i d)) 1 ≡ 1 = ap (λ b. share b 1) (passes_some q (get_or rows i d) some ∙ eq-eqb mask mask refl) in
    some_chunk mask cells (omega (arith, s, e, at))

pub left_skip : (rows : List Row) (i : ℕ) (d : Row) (first cells : List Cell) (used : List ℕ) → i < length rows → (get_or rows i d).mask ≡ 0 → AreCountsLeft rows i first cells used → AreCountsLeft rows (i + 1) first cells used
left_skip rows i d first cells used within none left = record {
  counts = λ q.
      let s = left.counts q in
      let e = rows_drop q rows i d within in
      let z : share (passes q (get_or rows i d)) 1 ≡ 0 = ap (λ b. share b 1) (passes_none q (get_or rows i d) none) in
      omega (arith, s, e, z);
  allowed = left.allowed;
  long = left.long;
  each = left.each;
}

pub left_more : (rows : List Row) (i : ℕ) (d : Row) (first cells new : List Cell) (used new_used : List ℕ) (source : ℕ) → i < length rows → ((get_or rows i d).mask ≡ 0 → ⊥) → source < 32 → AreCountsLeft rows i first cells used
    → TakesOne cells new (get_or rows i d).mask source → new_used ≡ set used source (get_or used source 0 + 1) → AreCountsLeft rows (i + 1) first new new_used
left_more rows i d first cells new used new_used source within some lt left takes e =
    let long = left.long in
    record {
      counts = λ q.
          let s = left.counts q in
          let r = rows_drop q rows i d within in
          let t = takes.counts q in
          let at : share (passes q (get_or rows i d)) 1 ≡ share (q (get_or rows i d).mask) 1 = ap (λ b. share b 1) (passes_some q (get_or rows i d) some) in
          omega (arith, s, r, t, at);
      allowed = takes.allowed;
      long = ap length e ∙ length-set used source (get_or used source 0 + 1) ∙ left.long;
      each = λ s below.
          let before = left.each s below in
          elim (cases_eq s source) [
            | inl same ↦
                let u : get_or new_used s 0 ≡ get_or used s 0 + 1 = ap (λ n. get_or new_used n 0) same ∙ ap (λ xs. get_or xs source 0) e ∙ get_or-set_same used source (get_or used source 0 + 1) 0 (omega arith) ∙ ap (λ n. get_or used n 0 + 1) (sym same) in
                let h : load_of s new + 1 ≡ load_of s cells = subst (λ n. load_of n new + 1 ≡ load_of n cells) (sym same) takes.from in
                omega (arith, before, u, h)
            | inr other ↦
                let u : get_or new_used s 0 ≡ get_or used s 0 = ap (λ xs. get_or xs s 0) e ∙ get_or-set_other used source s (get_or used source 0 + 1) 0 other in
                let h = takes.others s other in
                omega (arith, before, u, h)
          ];
    }

pub held_le : (s : ℕ) (cells : List Cell) → load_of s cells ≤ count_with (λ m. true) cells
held_le s cells = sum_by-le-sum_by (λ (c : Cell). share (eqb c.source s) c.count) (λ (c : Cell). share true c.count) cells (λ c. share_le (eqb c.source s) c.count)

-- the rounds used are no more than the chunks of the source
pub used_fits : (rows : List Row) (i : ℕ) (first cells new : List Cell) (used : List ℕ) (mask source : ℕ) → source < 32 → AreCountsLeft rows i first cells used → TakesOne cells new mask source → get_or used source 0 + 1 ≤ count_with (λ m. true) first
used_fits rows i first cells new used mask source lt left takes =
    let e = left.each source lt in
    let t = takes.from in
    let le = held_le source first in
    omega (arith, e, t, le)

-- the row is no orphan, and has a slot
pub slotting_more : (rows : List Row) → Rises rows → (i : ℕ) (d : Row) (slots : List Slot) (used new_used : List ℕ) (source : ℕ) (new : List Slot) → i < length rows → length used ≡ 32 → has (get_or rows i d).mask source ≡ true
    → new_used ≡ set used source (get_or used source 0 + 1) → new ≡ slots ++ record { chunk = (get_or rows i d).chunk; source = source; round = get_or used source 0 } ∷ []
    → IsSlotting rows i slots used → IsSlotting rows (i + 1) new new_used
slotting_more rows rises i d slots used new_used source new within words it e new_is before =
    let row = get_or rows i d in
    let round = get_or used source 0 in
    let x : Slot = record { chunk = row.chunk; source = source; round = round } in
    let lt : source < 32 = has_below row.mask source it in
    let at_source : get_or new_used source 0 ≡ round + 1 = ap (λ xs. get_or xs source 0) e ∙ get_or-set_same used source (round + 1) 0 (omega arith) in
    let at_other : (s : ℕ) → s ≢ source → get_or new_used s 0 ≡ get_or used s 0 = λ s other. ap (λ xs. get_or xs s 0) e ∙ get_or-set_other used source s (round + 1) 0 other in
    let pushed : List Slot = slots ++ x ∷ [] in
    let long : length pushed ≡ length slots + 1 = length-append slots (x ∷ []) in
    let old : (k : ℕ) (f : Slot) → k < length slots → get_or pushed k f ≡ get_or slots k f = λ k f less. get_or_append_left slots (x ∷ []) f k less in
    let last : (k : ℕ) (f : Slot) → k ≡ length slots → get_or pushed k f ≡ x = λ k f same. ap (λ n. get_or pushed n f) same ∙ get_or-append_seam slots x [] f in
    let all : IsSlotting rows (i + 1) pushed new_used = record {
      rise = all_pairs_push (λ (a b : Slot). a.chunk < b.chunk) slots x before.rise (λ k f less. before.later k i f d less (omega arith) within);
      later = λ k m f r less from below. elim (cases_eq k (length slots)) [
        | inl same ↦
            let up : row.chunk < (get_or rows m r).chunk = subst (λ (z : Row). z.chunk < (get_or rows m r).chunk) (get_or_default rows i r d within) (rises i m r (omega arith) below) in
            subst (λ (z : Slot). z.chunk < (get_or rows m r).chunk) (sym (last k f same)) up
        | inr other ↦ subst (λ (z : Slot). z.chunk < (get_or rows m r).chunk) (sym (old k f (omega arith))) (before.later k m f r (omega arith) (omega arith) below)
      ];
      allowed = All-push (λ (s : Slot). has (mask_of_chunk rows s.chunk) s.source ≡ true) slots x before.allowed (ap (λ m. has m source) (mask_hit rows rises i d within) ∙ it);
      placed = All-push (λ (s : Slot). s.round < get_or new_used s.source 0) slots x
          (λ k f less. let was = before.placed k f less in elim (cases_eq (get_or slots k f).source source) [
            | inl same ↦ let a : get_or new_used (get_or slots k f).source 0 ≡ get_or used (get_or slots k f).source 0 + 1 = ap (λ n. get_or new_used n 0) same ∙ at_source ∙ ap (λ n. get_or used n 0 + 1) (sym same) in omega (arith, was, a)
            | inr other ↦ let a = at_other (get_or slots k f).source other in omega (arith, was, a)
          ])
          (omega (arith, at_source));
      single = λ k m f less below source_same round_same. elim (cases_eq m (length slots)) [
        | inl same ↦
            let k_is = old k f (omega arith) in
            let m_is = last m f same in
            let was = before.placed k f (omega arith) in
            let s : (get_or slots k f).source ≡ source = ap (λ (z : Slot). z.source) (sym k_is) ∙ source_same ∙ ap (λ (z : Slot). z.source) m_is in
            let r : (get_or slots k f).round ≡ round = ap (λ (z : Slot). z.round) (sym k_is) ∙ round_same ∙ ap (λ (z : Slot). z.round) m_is in
            let u : get_or used (get_or slots k f).source 0 ≡ round = ap (λ n. get_or used n 0) s in
            omega (arith, was, r, u)
        | inr other ↦
            let k_is = old k f (omega arith) in
            let m_is = old m f (omega arith) in
            before.single k m f less (omega arith) (ap (λ (z : Slot). z.source) (sym k_is) ∙ source_same ∙ ap (λ (z : Slot). z.source) m_is) (ap (λ (z : Slot). z.round) (sym k_is) ∙ round_same ∙ ap (λ (z : Slot). z.round) m_is)
      ];
      covered = λ k r less some. elim (cases_eq k i) [
        | inl same ↦
            (length slots, x, omega (arith, long), last (length slots) x refl, sym (ap (λ n. (get_or rows n r).chunk) same ∙ ap (λ (z : Row). z.chunk) (get_or_default rows i r d within)))
        | inr other ↦
            let there = before.covered k r (omega arith) some in
            let lt_there : there.0 < length slots = there.2 in
            (there.0, there.1, omega (arith, long, lt_there), old there.0 there.1 there.2 ∙ there.3, there.4)
      ];
    } in
    subst (λ xs. IsSlotting rows (i + 1) xs new_used) (sym new_is) all

-- an orphan has no slot
pub slotting_skip : (rows : List Row) (i : ℕ) (d : Row) (slots : List Slot) (used : List ℕ) → i < length rows → (get_or rows i d).mask ≡ 0 → IsSlotting rows i slots used → IsSlotting rows (i + 1) slots used
slotting_skip rows i d slots used within none before = record {
  rise = before.rise;
  later = λ k m f r less from below. before.later k m f r less (omega arith) below;
  allowed = before.allowed;
  placed = before.placed;
  single = before.single;
  covered = λ k r less some. elim (cases_eq k i) [
    | inl same ↦ absurd (some (ap (λ n. (get_or rows n r).mask) same ∙ ap (λ (z : Row). z.mask) (get_or_default rows i r d within) ∙ none))
    | inr other ↦ before.covered k r (omega arith) some
  ];
}

pub slotting_none : (rows : List Row) (used : List ℕ) → IsSlotting rows 0 [] used
slotting_none rows used = record {
  rise = λ a b d less within. absurd (omega arith);
  later = λ k m d r less. absurd (omega arith);
  allowed = λ k d less. absurd (omega arith);
  placed = λ k d less. absurd (omega arith);
  single = λ k m d less within. absurd (omega arith);
  covered = λ k r less. absurd (omega arith);
}

pub orphans_yes : (rows : List Row) (i : ℕ) (d : Row) (orphans new : List ℕ) → i < length rows → (get_or rows i d).mask ≡ 0 → new ≡ orphans ++ (get_or rows i d).chunk ∷ [] → orphans ≡ orphans_of (take i rows) → new ≡ orphans_of (take (i + 1) rows)
orphans_yes rows i d orphans new within none e before =
    let p : Row → Bool = λ r. eqb r.mask 0 in
    let f : Row → ℕ = λ r. r.chunk in
    let x = get_or rows i d in
    let cut = filter_more p rows i d within in
    let keep : cond (p x) (x ∷ []) [] ≡ x ∷ [] = ap (λ b. cond b (x ∷ []) []) (eq-eqb x.mask 0 none) in
    e ∙ ap (λ xs. xs ++ x.chunk ∷ []) before ∙ sym (map-append f (filter p (take i rows)) (x ∷ [])) ∙ ap (λ xs. map f (filter p (take i rows) ++ xs)) (sym keep) ∙ ap (map f) (sym cut)

pub orphans_no : (rows : List Row) (i : ℕ) (d : Row) (orphans : List ℕ) → i < length rows → ((get_or rows i d).mask ≡ 0 → ⊥) → orphans ≡ orphans_of (take i rows) → orphans ≡ orphans_of (take (i + 1) rows)
orphans_no rows i d orphans within some before =
    let p : Row → Bool = λ r. eqb r.mask 0 in
    let f : Row → ℕ = λ r. r.chunk in
    let x = get_or rows i d in
    let cut = filter_more p rows i d within in
    let keep : cond (p x) (x ∷ []) [] ≡ [] = ap (λ b. cond b (x ∷ []) []) (ne_eqb x.mask 0 some) in
    before ∙ ap (map f) (sym (append-nil (filter p (take i rows))) ∙ ap (λ xs. filter p (take i rows) ++ xs) (sym keep) ∙ sym cut)

-- no round is used at first
pub left_first : (rows : List Row) (cells : List Cell) (used : List ℕ) → list_all (λ x. eqb x 0) used ≡ true → length used ≡ 32 → AreAllowed cells → ((q : ℕ → Bool) → count_with q cells ≡ count_rows q rows) → AreCountsLeft rows 0 cells cells used
left_first rows cells used none long allowed same = record {
  counts = same;
  allowed = allowed;
  long = long;
  each = λ s lt. let z = zeros used none s in omega (arith, z);
}

-- a slot is no second one, where no two have one place
pub no_second : (rows : List Row) (i : ℕ) (slots : List Slot) (used : List ℕ) (rounds : ℕ) → IsSlotting rows i slots used → NoRepeatBelow slots rounds (length slots)
no_second rows i slots used rounds s source round j less second =
    let d : Slot = record { chunk = 0; source = 0; round = 0 } in
    let late = second.turn d in
    let early = second.same d in
    s.single second.earlier j d second.before second.within (early.0 ∙ sym late.0) (early.1 ∙ sym late.1)
