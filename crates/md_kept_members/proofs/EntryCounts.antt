-- How many entries a list takes, by going through its sectors.
use Rattle.std.proofs.Common.{◌≡◌, ℕ, ◌+◌, ◌-◌, ◌/◌, ◌^◌, ◌<◌, ◌≤◌, inl, inr, min, max, List, [], ◌∷◌, length, get_or, take, drop, sum_by, refl, ap, sym, subst, arith}
use Rattle.std.specs.List.{AllByRecursion}
use Rattle.std.proofs.lemmas.Bool.{cases_lt}
use Rattle.std.proofs.lemmas.List.{take-append-drop, drop_all, drop_more}
use Rattle.std.proofs.lemmas.List.Sums.{sum_by-cons}
use Rattle.md_badblocks.specs.declared.run.Run.{Run}
use Rattle.md_badblocks.specs.Runs.{LiesIn, IsBad, IsCanonical, RisesFrom, entry_count, entries_needed}
use Rattle.md_badblocks.proofs.Rising.{bad_before, bad_from, bad_right, bad_side, rises_weaker}
use Rattle.md_badblocks.proofs.Joins.{rises_behind}
use Rattle.md_kept_members.specs.declared.run_counter.RunCounter.{RunCounter}
use Rattle.md_kept_members.specs.Entries.{HasEachSector, HasSectorsOf, Counts, CountsTo, entries_to}

-- ---- what a list takes up to a sector
pub to_none : (list : List Run) → sum_by (entries_to 0) list ≡ 0
to_none [] = refl
to_none (r ∷ rs) =
    let rest = to_none rs in
    let sum = sum_by-cons (entries_to 0) r rs in
    omega arith

pub to_all : (low limit : ℕ) (list : List Run) → RisesFrom low list → 2 ^ 54 ≤ limit → sum_by (entries_to limit) list ≡ entries_needed list
to_all low limit [] h le = refl
to_all low limit (r ∷ rs) h le =
    let rest = to_all (r.start + r.len + 1) limit rs h.3 le in
    let sum = sum_by-cons (entries_to limit) r rs in
    let whole = sum_by-cons entry_count r rs in
    let end : r.start + r.len ≤ 2 ^ 54 = h.2 in
    let here : min (r.start + r.len) limit - r.start ≡ r.len = omega arith in
    omega arith

-- a list that begins no lower takes none
none_above : (low limit : ℕ) (list : List Run) → RisesFrom low list → limit ≤ low → sum_by (entries_to limit) list ≡ 0
none_above low limit [] h le = refl
none_above low limit (r ∷ rs) h le =
    let rest = none_above (r.start + r.len + 1) limit rs h.3 (omega arith) in
    let sum = sum_by-cons (entries_to limit) r rs in
    let from : low ≤ r.start = h.0 in
    let here : min (r.start + r.len) limit - r.start ≡ 0 = omega arith in
    omega arith

-- nothing is listed in between
gap_same : (low from to : ℕ) (list : List Run) → RisesFrom low list → from ≤ to → ((s : ℕ) → from ≤ s → s < to → IsBad list s → ⊥) → sum_by (entries_to to) list ≡ sum_by (entries_to from) list
gap_same low from to [] h le none = refl
gap_same low from to (r ∷ rs) h le none =
    let rest = gap_same (r.start + r.len + 1) from to rs h.3 le (λ s a b bad. none s a b (inr bad)) in
    let sum = sum_by-cons (entries_to from) r rs in
    let sum' = sum_by-cons (entries_to to) r rs in
    let some : 0 < r.len = h.1 in
    let here : min (r.start + r.len) to - r.start ≡ min (r.start + r.len) from - r.start =
    elim (cases_lt from (r.start + r.len)) [
      | inl past ↦
          elim (cases_lt (max r.start from) to) [
            | inl begun ↦
                let lies : LiesIn (max r.start from) r = (omega arith, omega arith) in
                absurd (none (max r.start from) (omega arith) begun (inl lies))
            | inr later ↦ omega arith
          ]
      | inr before ↦ omega arith
    ] in
    omega arith

-- the sector after the first run is in none
end_out : (low : ℕ) (r : Run) (rs : List Run) → RisesFrom low (r ∷ rs) → IsBad (r ∷ rs) (r.start + r.len) → ⊥
end_out low r rs h bad =
    elim bad [
      | inl here ↦ absurd (omega arith)
      | inr later ↦ let from = bad_from (r.start + r.len + 1) rs (r.start + r.len) h.3 later in absurd (omega arith)
    ]

-- all is listed from where a run starts
grown : (low start from to : ℕ) (list : List Run) → RisesFrom low list → start ≤ from → from ≤ to → HasEachSector start to list → ((s : ℕ) → s + 1 ≡ start → IsBad list s → ⊥)
    → sum_by (entries_to to) list + (from - start + 511) / 512 ≡ sum_by (entries_to from) list + (to - start + 511) / 512
grown low start from to [] h le le' all first =
    elim (cases_lt start to) [
      | inl some ↦ absurd (all start (omega arith) some)
      | inr none ↦ let same : to ≡ from = omega arith in let sums = ap (λ n. sum_by (entries_to n) []) same in omega arith
    ]
grown low start from to (r ∷ rs) h le le' all first =
    let sum = sum_by-cons (entries_to from) r rs in
    let sum' = sum_by-cons (entries_to to) r rs in
    elim (cases_lt start to) [
      | inr none ↦ let same : to ≡ from = omega arith in let sums = ap (λ n. sum_by (entries_to n) (r ∷ rs)) same in omega arith
      | inl some ↦
          elim (all start (omega arith) some) [
            | inl lies ↦
                let low' : r.start ≤ start = lies.0 in
                let high' : start < r.start + r.len = lies.1 in
                let is : r.start ≡ start =
                elim (cases_lt r.start start) [
                  | inl less ↦
                      let lies' : LiesIn (start - 1) r = (omega arith, omega arith) in
                      absurd (first (start - 1) (omega arith) (inl lies'))
                  | inr no_less ↦ omega arith
                ] in
                let ends : to ≤ r.start + r.len =
                elim (cases_lt (r.start + r.len) to) [
                  | inl past ↦ absurd (end_out low r rs h (all (r.start + r.len) (omega arith) past))
                  | inr within ↦ within
                ] in
                let none = none_above (r.start + r.len + 1) from rs h.3 (omega arith) in
                let none' = none_above (r.start + r.len + 1) to rs h.3 (omega arith) in
                let here : min (r.start + r.len) from - r.start ≡ from - start = omega arith in
                let here' : min (r.start + r.len) to - r.start ≡ to - start = omega arith in
                omega arith
            | inr later ↦
                let above = bad_from (r.start + r.len + 1) rs start h.3 later in
                let all' : HasEachSector start to rs = λ s a b. elim (all s a b) [ inl lies ↦ absurd (omega arith) | inr bad ↦ bad ] in
                let rest = grown (r.start + r.len + 1) start from to rs h.3 le le' all' (λ s e bad. first s e (inr bad)) in
                let here : min (r.start + r.len) from - r.start ≡ min (r.start + r.len) to - r.start = omega arith in
                omega arith
          ]
    ]

-- ---- the counter
pub begun : (list : List Run) (c : RunCounter) → c.entries ≡ 0 → c.start ≡ 0 → c.end ≡ 0 → CountsTo 0 list c
begun list c entries start end =
    let none = to_none list in
    record {
      within = omega arith;
      last = λ s a b. absurd (omega arith);
      first = λ s e bad. omega arith;
      gap = λ s a b bad. omega arith;
      counted = omega arith;
    }

pub skipped : (from to : ℕ) (list : List Run) (c : RunCounter) → IsCanonical list → from ≤ to → ((s : ℕ) → from ≤ s → s < to → IsBad list s → ⊥) → CountsTo from list c → CountsTo to list c
skipped from to list c h le none before =
    let same = gap_same 0 from to list h le none in
    let within : c.end ≤ from = before.within in
    let counted = before.counted in
    record {
      within = omega arith;
      last = before.last;
      first = before.first;
      gap = λ s a b bad. elim (cases_lt s from) [ inl was ↦ before.gap s a was bad | inr new ↦ none s new b bad ];
      counted = omega arith;
    }

-- its last run goes on
pub pushed_on : (from to : ℕ) (list : List Run) (old new : RunCounter) → IsCanonical list → from ≤ to → from ≤ old.end → new.entries ≡ old.entries → new.start ≡ old.start → new.end ≡ to
    → old.start ≤ old.end → HasEachSector from to list → CountsTo from list old → CountsTo to list new
pushed_on from to list old new h le on entries start end ordered all before =
    let within : old.end ≤ from = before.within in
    let all' : HasEachSector old.start to list = λ s a b. elim (cases_lt s from) [ inl was ↦ before.last s a (omega arith) | inr more ↦ all s more b ] in
    let more = grown 0 old.start from to list h (omega arith) le all' before.first in
    let counted = before.counted in
    let old_len : old.end - old.start ≡ from - old.start = omega arith in
    let new_len : new.end - new.start ≡ to - old.start = omega arith in
    record {
      within = omega arith;
      last = λ s a b. all' s (omega arith) (omega arith);
      first = λ s e bad. before.first s (omega arith) bad;
      gap = λ s a b bad. omega arith;
      counted = omega arith;
    }

-- another run begins
pub pushed_anew : (from to : ℕ) (list : List Run) (old new : RunCounter) → IsCanonical list → from ≤ to → old.end < from → new.entries ≡ old.entries + (old.end - old.start + 511) / 512 → new.start ≡ from
    → new.end ≡ to → HasEachSector from to list → CountsTo from list old → CountsTo to list new
pushed_anew from to list old new h le apart entries start end all before =
    let alone : (s : ℕ) → s + 1 ≡ from → IsBad list s → ⊥ = λ s e bad. before.gap s (omega arith) (omega arith) bad in
    let more = grown 0 from from to list h (omega arith) le all alone in
    let counted = before.counted in
    let none : from - from ≡ 0 = omega arith in
    let new_len : new.end - new.start ≡ to - from = omega arith in
    record {
      within = omega arith;
      last = λ s a b. all s (omega arith) (omega arith);
      first = λ s e bad. alone s (omega arith) bad;
      gap = λ s a b bad. omega arith;
      counted = omega arith;
    }

-- ---- the runs within a range, of which those of `rest` are left
pub record IsWithin (runs rest : List Run) (from to : ℕ) (old new : RunCounter) : Type 0 where
  pub rises : RisesFrom 0 rest
  pub end : new.end ≤ to
  pub ahead : AllByRecursion (λ r. new.end ≤ max r.start from) rest
  pub past : AllByRecursion (λ r. from + 1 ≤ r.start + r.len) rest
  pub left : (s : ℕ) → max from new.end ≤ s → s < to → IsBad runs s → IsBad rest s
  pub among : (s : ℕ) → IsBad rest s → IsBad runs s
  pub counts : Counts (HasSectorsOf runs from to) from (max from new.end) old new

all_ahead : (low n from : ℕ) (rest : List Run) → RisesFrom low rest → n ≤ max low from → AllByRecursion (λ r. n ≤ max r.start from) rest
all_ahead low n from [] h le = tt
all_ahead low n from (r ∷ rs) h le = (omega arith, all_ahead (r.start + r.len + 1) n from rs h.3 (omega arith))

pub within_begun : (runs : List Run) (i from to : ℕ) (old : RunCounter) → IsCanonical runs → AllByRecursion (λ r. r.start + r.len < from + 1) (take i runs)
    → AllByRecursion (λ r. from + 1 ≤ r.start + r.len) (drop i runs) → old.end ≤ from → from ≤ to → IsWithin runs (drop i runs) from to old old
within_begun runs i from to old h before after end le =
    let rises = rises_behind runs i h in
    record {
      rises = rises;
      end = omega arith;
      ahead = all_ahead 0 old.end from (drop i runs) rises (omega arith);
      past = after;
      left = λ s a b bad. elim (bad_side (take i runs) (drop i runs) s (subst (λ (xs : List Run). IsBad xs s) (sym (take-append-drop i runs)) bad)) [
        | inl early ↦ let low = bad_before (from + 1) (take i runs) s before early in absurd (omega arith)
        | inr is ↦ is
      ];
      among = λ s bad. subst (λ (xs : List Run). IsBad xs s) (take-append-drop i runs) (bad_right (take i runs) (drop i runs) s bad);
      counts = λ list canonical same was. skipped from (max from old.end) list old canonical (omega arith) (λ s a b. absurd (omega arith)) was;
    }

within_more : (runs rest : List Run) (run : Run) (from to start end : ℕ) (old new next : RunCounter) → IsWithin runs (run ∷ rest) from to old new → from ≤ to → run.start < to
    → start ≡ max run.start from → end ≡ min (run.start + run.len) to → next.end ≡ end
    → Counts (HasEachSector start end) start end new next → IsWithin runs rest from to old next
within_more runs rest run from to start end old new next is le begins at to_end next_end pushed =
    let low : new.end ≤ max run.start from = is.ahead.0 in
    let past : from + 1 ≤ run.start + run.len = is.past.0 in
    let some : 0 < run.len = is.rises.1 in
    record {
      rises = rises_weaker 0 (run.start + run.len + 1) rest (omega arith) is.rises.3;
      end = omega arith;
      ahead = all_ahead (run.start + run.len + 1) next.end from rest is.rises.3 (omega arith);
      past = is.past.1;
      left = λ s a b bad. elim (is.left s (omega arith) b bad) [ inl lies ↦ absurd (omega arith) | inr later ↦ later ];
      among = λ s bad. is.among s (inr bad);
      counts = λ list canonical same was.
          let none : (s : ℕ) → max from new.end ≤ s → s < start → IsBad list s → ⊥ = λ s a b bad.
          let in_rest = is.left s a (omega arith) ((same s (omega arith) (omega arith)).0 bad) in
          let later = bad_from run.start (run ∷ rest) s (omega arith, is.rises.1, is.rises.2, is.rises.3) in_rest in
          omega arith in
          let here = skipped (max from new.end) start list new canonical (omega arith) none (is.counts list canonical same was) in
          let all : HasEachSector start end list = λ s a b. (same s (omega arith) (omega arith)).1 (is.among s (inl (omega arith, omega arith))) in
          skipped end (max from next.end) list next canonical (omega arith) (λ s a b. absurd (omega arith)) (pushed list canonical all here);
    }

within_done : (runs rest : List Run) (from to : ℕ) (old new : RunCounter) → IsWithin runs rest from to old new → from ≤ to → ((s : ℕ) → s < to → IsBad rest s → ⊥) → Counts (HasSectorsOf runs from to) from to old new
within_done runs rest from to old new is le none list canonical same was =
    let end = is.end in
    skipped (max from new.end) to list new canonical (omega arith) (λ s a b bad. none s b (is.left s a b ((same s (omega arith) b).0 bad))) (is.counts list canonical same was)

none_below : (run : Run) (rest : List Run) (to s : ℕ) → RisesFrom 0 (run ∷ rest) → to ≤ run.start → s < to → IsBad (run ∷ rest) s → ⊥
none_below run rest to s h le lt bad =
    let from = bad_from run.start (run ∷ rest) s (omega arith, h.1, h.2, h.3) bad in
    omega arith

-- ---- the loop over the runs, by an index
module _ (runs items : List Run) (i : ℕ) (d : Run) (from to : ℕ) (old new : RunCounter) (lt : i < length items) (is : IsWithin runs (drop i items) from to old new) (le : from ≤ to) where
  is_at : IsWithin runs (get_or items i d ∷ drop (i + 1) items) from to old new
  is_at = subst (λ (rest : List Run). IsWithin runs rest from to old new) (drop_more items i d lt) is

  whole_end : (ended end : ℕ) → ended ≡ min ((get_or items i d).start + (get_or items i d).len) (2 ^ 64 - 1) → end ≡ min ended to → end ≡ min ((get_or items i d).start + (get_or items i d).len) to
  whole_end ended end at at' =
      let fits : (get_or items i d).start + (get_or items i d).len ≤ 2 ^ 54 = is_at.rises.2 in
      omega arith

  pub step_fits : (start ended end : ℕ) → (get_or items i d).start < to → to ≤ 2 ^ 54 → start ≡ max (get_or items i d).start from
      → ended ≡ min ((get_or items i d).start + (get_or items i d).len) (2 ^ 64 - 1) → end ≡ min ended to → (new.end ≤ start) × (start ≤ end) × (end ≤ 2 ^ 54)
  step_fits start ended end begins fits at at_ended at_end =
      let e = whole_end ended end at_ended at_end in
      let low : new.end ≤ max (get_or items i d).start from = is_at.ahead.0 in
      let past : from + 1 ≤ (get_or items i d).start + (get_or items i d).len = is_at.past.0 in
      let some : 0 < (get_or items i d).len = is_at.rises.1 in
      (omega arith, omega arith, omega arith)

  pub step_within : (start ended end : ℕ) (next : RunCounter) → (get_or items i d).start < to → start ≡ max (get_or items i d).start from
      → ended ≡ min ((get_or items i d).start + (get_or items i d).len) (2 ^ 64 - 1) → end ≡ min ended to → next.end ≡ end → Counts (HasEachSector start end) start end new next
      → IsWithin runs (drop (i + 1) items) from to old next
  step_within start ended end next begins at at_ended at_end next_end pushed =
      within_more runs (drop (i + 1) items) (get_or items i d) from to start end old new next is_at le begins at (whole_end ended end at_ended at_end) next_end pushed

  pub out_within : to ≤ (get_or items i d).start → Counts (HasSectorsOf runs from to) from to old new
  out_within over = within_done runs (get_or items i d ∷ drop (i + 1) items) from to old new is_at le (λ s b. none_below (get_or items i d) (drop (i + 1) items) to s is_at.rises over b)

pub all_within : (runs items : List Run) (i from to : ℕ) (old new : RunCounter) → length items ≤ i → IsWithin runs (drop i items) from to old new → from ≤ to → Counts (HasSectorsOf runs from to) from to old new
all_within runs items i from to old new all is le =
    within_done runs (drop i items) from to old new is le (λ s b bad. subst (λ (xs : List Run). IsBad xs s) (drop_all i items all) bad)
