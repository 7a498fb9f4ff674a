-- A range of sectors joined to a rising list, by places in it.
use Rattle.std.proofs.Common.{◌≡◌, ℕ, suc, ◌+◌, ◌-◌, ◌^◌, ◌<◌, ◌≤◌, inl, inr, min, max, List, [], ◌∷◌, ◌++◌, length, get_or, take, drop, ap, ◌∙◌, sym, subst, arith}
use Rattle.std.specs.List.{AllByRecursion}
use Rattle.std.proofs.lemmas.List.{take-append-drop, get_or-take, get_or-drop, length-take-le, length-drop, drop-drop}
use Rattle.md_badblocks.specs.declared.run.Run.{Run}
use Rattle.md_badblocks.specs.Runs.{RisesFrom}
use Rattle.md_badblocks.specs.Edits.{IsParted, IsJoined}
use Rattle.md_badblocks.proofs.Rising.{rises_weaker, rises_higher, next, rises_parts, rises_joined, next_below}
use Rattle.md_badblocks.proofs.Merging.{all_last, last, get_or-last, IsMerged, merged_bad, merged_rises, middle_joined}

-- the runs from a place on rise as well
pub rises_behind : (runs : List Run) (i : ℕ) → RisesFrom 0 runs → RisesFrom 0 (drop i runs)
rises_behind runs i h =
    let parts = rises_parts 0 (take i runs) (drop i runs) (rw (take-append-drop i runs) h) in
    rises_weaker 0 (next 0 (take i runs)) (drop i runs) (omega arith) parts.1

-- a range that touches no run
apart : (start end : ℕ) (a c : List Run) (m : Run) → RisesFrom 0 (a ++ c) → AllByRecursion (λ r. r.start + r.len < start) a → AllByRecursion (λ r. end + 1 ≤ r.start) c → start < end → end ≤ 2 ^ 54 → m.start ≡ start → m.start + m.len ≡ end → IsJoined start end (a ++ c) (a ++ m ∷ c)
apart start end a c m h below above ordered fits from to =
    let parts = rises_parts 0 a c h in
    let under : next 0 a ≤ start = next_below 0 start a (omega arith) below in
    let over : AllByRecursion (λ r. m.start + m.len + 1 ≤ r.start) c = rw to above in
    record {
      canonical = rises_joined 0 a (m ∷ c) parts.0 (omega arith, omega arith, omega arith, rises_higher (m.start + m.len + 1) (next 0 a) c over parts.1);
      joined = λ s. middle_joined a [] c (m ∷ []) s ((start ≤ s) × (s < end)) (
        λ new. elim new [
          | inl here ↦ let lo : m.start ≤ s = here.0 in let hi : s < m.start + m.len = here.1 in inr (omega arith, omega arith)
          | inr none ↦ absurd none
        ],
        λ old. elim old [
          | inl none ↦ absurd none
          | inr range ↦ let lo : start ≤ s = range.0 in let hi : s < end = range.1 in inl (omega arith, omega arith)
        ],
      );
    }

joined_apart : (start end : ℕ) (runs : List Run) (i : ℕ) (m : Run) → RisesFrom 0 runs → AllByRecursion (λ r. r.start + r.len < start) (take i runs) → AllByRecursion (λ r. end + 1 ≤ r.start) (drop i runs) → start < end → end ≤ 2 ^ 54 → m.start ≡ start → m.start + m.len ≡ end → IsJoined start end runs (take i runs ++ m ∷ drop i runs)
joined_apart start end runs i m h below above ordered fits from to =
    let P : List Run → Type 0 = λ old. IsJoined start end old (take i runs ++ m ∷ drop i runs) in
    subst P (take-append-drop i runs) (apart start end (take i runs) (drop i runs) m (rw (take-append-drop i runs) h) below above ordered fits from to)

-- a range that touches the runs b
over : (start end : ℕ) (a b c : List Run) (first final m : Run) → RisesFrom 0 (a ++ (b ++ c)) → AllByRecursion (λ r. r.start + r.len < start) a → AllByRecursion (λ r. start ≤ r.start + r.len) (b ++ c) → AllByRecursion (λ r. r.start < end + 1) b → AllByRecursion (λ r. end + 1 ≤ r.start) c → start < end → end ≤ 2 ^ 54 → 0 < length b → first ≡ get_or b 0 first → final ≡ get_or b (length b - 1) final → m.start ≡ min first.start start → m.start + m.len ≡ max (final.start + final.len) end → IsJoined start end (a ++ (b ++ c)) (a ++ m ∷ c)
over start end a [] c first final m h below reach touched above ordered fits some is_first is_final from to = absurd (omega arith)
over start end a (r ∷ rs) c first final m h below reach touched above ordered fits some is_first is_final from to =
    let place : suc (length rs) - 1 ≡ length rs = omega arith in
    let at_last : final ≡ last r rs = is_final ∙ ap (λ k. get_or (r ∷ rs) k final) place ∙ get_or-last r rs final in
    let last_touched : (last r rs).start < end + 1 = all_last (λ q. q.start < end + 1) r rs touched in
    let is : IsMerged start end r rs m = record {
      from = from ∙ ap (λ q. min (Run.start q) start) is_first;
      to = to ∙ ap (λ q. max (Run.start q + Run.len q) end) at_last;
      touches_first = reach.0;
      touches_last = omega arith;
      ordered = ordered;
    } in
    let inner = rises_parts (next 0 a) (r ∷ rs) c (rises_parts 0 a ((r ∷ rs) ++ c) h).1 in
    record {
      canonical = merged_rises start end a r rs c m h below above fits is;
      joined = λ s. middle_joined a (r ∷ rs) c (m ∷ []) s ((start ≤ s) × (s < end)) (merged_bad (next 0 a) start end r rs m s inner.0 is);
    }

joined_over : (start end : ℕ) (runs : List Run) (i k : ℕ) (first final m : Run) → RisesFrom 0 runs → i + k ≤ length runs → 0 < k → AllByRecursion (λ r. r.start + r.len < start) (take i runs) → AllByRecursion (λ r. start ≤ r.start + r.len) (drop i runs) → AllByRecursion (λ r. r.start < end + 1) (take k (drop i runs)) → AllByRecursion (λ r. end + 1 ≤ r.start) (drop k (drop i runs)) → start < end → end ≤ 2 ^ 54 → first ≡ get_or runs i first → final ≡ get_or runs (i + k - 1) final → m.start ≡ min first.start start → m.start + m.len ≡ max (final.start + final.len) end → IsJoined start end runs (take i runs ++ m ∷ drop (i + k) runs)
joined_over start end runs i k first final m h within some below reach touched above ordered fits is_first is_final from to =
    let count : length (take k (drop i runs)) ≡ k = length-take-le k (drop i runs) (omega (arith, length-drop i runs)) in
    let inner : take k (drop i runs) ++ drop k (drop i runs) ≡ drop i runs = take-append-drop k (drop i runs) in
    let whole : take i runs ++ (take k (drop i runs) ++ drop k (drop i runs)) ≡ runs = ap (λ xs. take i runs ++ xs) inner ∙ take-append-drop i runs in
    let place0 : i + 0 ≡ i = omega arith in
    let place1 : i + (k - 1) ≡ i + k - 1 = omega arith in
    let first_at : first ≡ get_or (take k (drop i runs)) 0 first = is_first ∙ ap (λ n. get_or runs n first) (sym place0) ∙ sym (get_or-drop i runs 0 first) ∙ sym (get_or-take k (drop i runs) 0 first some) in
    let final_at : final ≡ get_or (take k (drop i runs)) (length (take k (drop i runs)) - 1) final = is_final ∙ ap (λ n. get_or runs n final) (sym place1) ∙ sym (get_or-drop i runs (k - 1) final) ∙ sym (get_or-take k (drop i runs) (k - 1) final (omega arith)) ∙ ap (λ n. get_or (take k (drop i runs)) (n - 1) final) (sym count) in
    let P : List Run → Type 0 = λ old. IsJoined start end old (take i runs ++ m ∷ drop k (drop i runs)) in
    let Q : List Run → Type 0 = λ c. IsJoined start end runs (take i runs ++ m ∷ c) in
    subst Q (drop-drop k i runs) (subst P whole (over start end (take i runs) (take k (drop i runs)) (drop k (drop i runs)) first final m (rw whole h) below (rw inner reach) touched above ordered fits (omega arith) first_at final_at from to))

-- the two cases of the code
pub joined_between : (start end : ℕ) (runs : List Run) (i j : ℕ) (m : Run) → RisesFrom 0 runs → IsParted start (end + 1) runs i j → i ≡ j → start < end → end ≤ 2 ^ 54 → m.start ≡ start → m.start + m.len ≡ end → IsJoined start end runs (take i runs ++ m ∷ drop i runs)
joined_between start end runs i j m h parted same ordered fits from to =
    let P : ℕ → Type 0 = λ k. AllByRecursion (λ r. end + 1 ≤ r.start) (drop k runs) in
    joined_apart start end runs i m h parted.below (subst P (sym same) parted.above) ordered fits from to

pub joined_across : (start end : ℕ) (runs : List Run) (i j : ℕ) (first final m : Run) → RisesFrom 0 runs → IsParted start (end + 1) runs i j → i < j → start < end → end ≤ 2 ^ 54 → first ≡ get_or runs i first → final ≡ get_or runs (j - 1) final → m.start ≡ min first.start start → m.start + m.len ≡ max (final.start + final.len) end → IsJoined start end runs (take i runs ++ m ∷ drop j runs)
joined_across start end runs i j first final m h parted lt ordered fits is_first is_final from to =
    let within : j ≤ length runs = parted.within in
    let place : i + (j - i) ≡ j = omega arith in
    let P : ℕ → Type 0 = λ k. IsJoined start end runs (take i runs ++ m ∷ drop k runs) in
    let above : AllByRecursion (λ r. end + 1 ≤ r.start) (drop (j - i) (drop i runs)) = rw (drop-drop (j - i) i runs, place) parted.above in
    subst P place (joined_over start end runs i (j - i) first final m h (omega arith) (omega arith) parted.below parted.reaching parted.starting above ordered fits is_first (is_final ∙ ap (λ n. get_or runs (n - 1) final) (sym place)) from to)

-- the places that the two searches find: part is the list from the first on
pub places_part : (low high : ℕ) (runs part : List Run) (i k : ℕ) → i ≤ length runs → part ≡ drop i runs → AllByRecursion (λ r. r.start + r.len < low) (take i runs) → AllByRecursion (λ r. low ≤ r.start + r.len) (drop i runs) → k ≤ length part → AllByRecursion (λ r. r.start < high) (take k part) → AllByRecursion (λ r. high ≤ r.start) (drop k part) → IsParted low high runs i (i + k)
places_part low high runs part i k le is below reaching short starting above =
    let count = length-drop i runs in
    let same = ap length is in
    let place : i + k - i ≡ k = omega arith in
    record {
      ordered = omega arith;
      within = omega arith;
      below = below;
      reaching = reaching;
      starting = rw (place, ← is) starting;
      above = rw (← drop-drop k i runs, ← is) above;
    }
