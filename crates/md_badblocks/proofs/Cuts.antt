-- A range of sectors, from `start` up to `end`, cut out of a rising list: a are the runs below it, r and rs those that
-- it meets, c those above.
use Rattle.std.proofs.Common.{◌≡◌, ℕ, suc, ◌+◌, ◌-◌, ◌^◌, ◌<◌, ◌≤◌, ◌≢◌, ◌⊎◌, ◌↔◌, inl, inr, min, List, [], ◌∷◌, ◌++◌, length, get_or, take, drop, refl, ap, ◌∙◌, sym, subst, arith}
use Rattle.std.specs.List.{AllByRecursion}
use Rattle.std.proofs.lemmas.List.{take-append-drop, get_or-take, get_or-drop, length-take-le, length-drop, drop-drop}
use Rattle.md_badblocks.specs.declared.run.Run.{Run}
use Rattle.md_badblocks.specs.Runs.{LiesIn, IsBad, RisesFrom}
use Rattle.md_badblocks.specs.Edits.{IsParted, IsCut}
use Rattle.md_badblocks.proofs.Rising.{read_fits, rises_weaker, next, rises_parts, rises_joined, bad_from, bad_before, bad_after, bad_left, bad_right, bad_side}
use Rattle.md_badblocks.proofs.Merging.{last, last_end, get_or-last, last_bad, last_of, bad_to_last, all_last}

-- what is left of the runs met, below the range and above it; either may be empty
pub record IsHalved (start end : ℕ) (first final left right : Run) : Type 0 where
  pub left_start : left.start ≡ first.start
  pub left_len : left.len ≡ start - first.start
  pub right_start : right.start ≡ end
  pub right_len : right.len ≡ final.start + final.len - end
  pub ordered : start < end
  pub fits : end ≤ 2 ^ 54

-- the parts that are not empty
pub data Keeps (left right : Run) : List Run → Type 0 where
  neither : left.len ≡ 0 → right.len ≡ 0 → Keeps left right []
  lower : 0 < left.len → right.len ≡ 0 → Keeps left right (left ∷ [])
  upper : left.len ≡ 0 → 0 < right.len → Keeps left right (right ∷ [])
  both : 0 < left.len → 0 < right.len → Keeps left right (left ∷ right ∷ [])

kept_bad : (left right : Run) (m : List Run) (s : ℕ) → Keeps left right m → IsBad m s → LiesIn s left ⊎ LiesIn s right
kept_bad left right m s (neither p q) bad = absurd bad
kept_bad left right m s (lower p q) bad = elim bad [ inl here ↦ inl here | inr none ↦ absurd none ]
kept_bad left right m s (upper p q) bad = elim bad [ inl here ↦ inr here | inr none ↦ absurd none ]
kept_bad left right m s (both p q) bad =
    elim bad [ inl here ↦ inl here | inr rest ↦ elim rest [ inl here ↦ inr here | inr none ↦ absurd none ] ]

lies_kept : (left right : Run) (m : List Run) (s : ℕ) → Keeps left right m → LiesIn s left ⊎ LiesIn s right → IsBad m s
lies_kept left right m s (neither p q) lies =
    elim lies [ inl here ↦ absurd (omega arith) | inr here ↦ absurd (omega arith) ]
lies_kept left right m s (lower p q) lies = elim lies [ inl here ↦ inl here | inr here ↦ absurd (omega arith) ]
lies_kept left right m s (upper p q) lies = elim lies [ inl here ↦ absurd (omega arith) | inr here ↦ inl here ]
lies_kept left right m s (both p q) lies = elim lies [ inl here ↦ inl here | inr here ↦ inr (inl here) ]

halves_bad : (low start end : ℕ) (r : Run) (rs : List Run) (left right : Run) (s : ℕ) → RisesFrom low (r ∷ rs) → start + 1 ≤ r.start + r.len → (last r rs).start < end → IsHalved start end r (last r rs) left right → LiesIn s left ⊎ LiesIn s right → IsBad (r ∷ rs) s × ((s < start) ⊎ (end ≤ s))
halves_bad low start end r rs left right s h reaches starts is lies =
    elim lies [
      | inl here ↦
          let below : s < start = omega arith in
          let there : LiesIn s r = (omega arith, omega arith) in
          (inl there, inl below)
      | inr here ↦
          let above : end ≤ s = omega arith in
          (last_bad r rs s (omega arith, omega arith), inr above)
    ]

bad_halves : (low start end : ℕ) (r : Run) (rs : List Run) (left right : Run) (s : ℕ) → RisesFrom low (r ∷ rs) → IsHalved start end r (last r rs) left right → IsBad (r ∷ rs) s → (s < start) ⊎ (end ≤ s) → LiesIn s left ⊎ LiesIn s right
bad_halves low start end r rs left right s h is bad side =
    let from : r.start ≤ s = bad_from r.start (r ∷ rs) s (omega arith, h.1, h.2, h.3) bad in
    let to = bad_to_last low r rs s h bad in
    elim side [ inl below ↦ inl (omega arith, omega arith) | inr above ↦ inr (omega arith, omega arith) ]

kept_rises : (low start end : ℕ) (r : Run) (rs c : List Run) (left right : Run) (m : List Run) → RisesFrom low (r ∷ rs) → RisesFrom (last_end r rs + 1) c → start + 1 ≤ r.start + r.len → r.start < end → IsHalved start end r (last r rs) left right → Keeps left right m → RisesFrom low (m ++ c)
kept_rises low start end r rs c left right m h behind reaches starts is (neither p q) =
    let final = last_of low r rs h in rises_weaker low (last_end r rs + 1) c (omega arith) behind
kept_rises low start end r rs c left right m h behind reaches starts is (lower p q) =
    let final = last_of low r rs h in
    (omega arith, p, omega arith, rises_weaker (left.start + left.len + 1) (last_end r rs + 1) c (omega arith) behind)
kept_rises low start end r rs c left right m h behind reaches starts is (upper p q) =
    let final = last_of low r rs h in
    (omega arith, q, omega arith, rises_weaker (right.start + right.len + 1) (last_end r rs + 1) c (omega arith) behind)
kept_rises low start end r rs c left right m h behind reaches starts is (both p q) =
    let final = last_of low r rs h in
    (omega arith, p, omega arith, (omega arith, q, omega arith, rises_weaker (right.start + right.len + 1) (last_end r rs + 1) c (omega arith) behind))

-- the sectors of a list whose middle is replaced by its part with Q, where the rest has Q
middle_cut : (a b c m : List Run) (s : ℕ) (Q : Type 0) → (IsBad a s → Q) → (IsBad c s → Q) → (IsBad m s → IsBad b s × Q) → (IsBad b s → Q → IsBad m s) → IsBad (a ++ (m ++ c)) s ↔ (IsBad (a ++ (b ++ c)) s × Q)
middle_cut a b c m s Q qa qc to back = (
  λ new. elim (bad_side a (m ++ c) s new) [
    | inl left ↦ (bad_left a (b ++ c) s left, qa left)
    | inr rest ↦
        elim (bad_side m c s rest) [
          | inl middle ↦ (bad_right a (b ++ c) s (bad_left b c s (to middle).0), (to middle).1)
          | inr right ↦ (bad_right a (b ++ c) s (bad_right b c s right), qc right)
        ]
  ],
  λ old. elim (bad_side a (b ++ c) s old.0) [
    | inl left ↦ bad_left a (m ++ c) s left
    | inr rest ↦
        elim (bad_side b c s rest) [
          | inl middle ↦ bad_right a (m ++ c) s (bad_left m c s (back middle old.1))
          | inr right ↦ bad_right a (m ++ c) s (bad_right m c s right)
        ]
  ],
)

cut_middle : (start end : ℕ) (a : List Run) (r : Run) (rs c : List Run) (left right : Run) (m : List Run) → RisesFrom 0 (a ++ ((r ∷ rs) ++ c)) → AllByRecursion (λ q. q.start + q.len < start + 1) a → start + 1 ≤ r.start + r.len → AllByRecursion (λ q. q.start < end) (r ∷ rs) → AllByRecursion (λ q. end ≤ q.start) c → IsHalved start end r (last r rs) left right → Keeps left right m → IsCut start end (a ++ ((r ∷ rs) ++ c)) (a ++ (m ++ c))
cut_middle start end a r rs c left right m h below reaches starts above is keeps =
    let parts = rises_parts 0 a ((r ∷ rs) ++ c) h in
    let inner = rises_parts (next 0 a) (r ∷ rs) c parts.1 in
    let final = last_of (next 0 a) r rs inner.0 in
    let behind : RisesFrom (last_end r rs + 1) c = rises_weaker (last_end r rs + 1) (next (next 0 a) (r ∷ rs)) c (omega arith) inner.1 in
    let first_starts : r.start < end = starts.0 in
    let last_starts : (last r rs).start < end = all_last (λ q. q.start < end) r rs starts in
    record {
      canonical = rises_joined 0 a (m ++ c) parts.0 (kept_rises (next 0 a) start end r rs c left right m inner.0 behind reaches first_starts is keeps);
      cut = λ s. middle_cut a (r ∷ rs) c m s ((s < start) ⊎ (end ≤ s)) (λ bad. let lt = bad_before (start + 1) a s below bad in let l : s < start = omega arith in inl l)
          (λ bad. inr (bad_after end c s above bad)) (λ bad. halves_bad (next 0 a) start end r rs left right s inner.0 reaches last_starts is (kept_bad left right m s keeps bad))
          (λ bad side. lies_kept left right m s keeps (bad_halves (next 0 a) start end r rs left right s inner.0 is bad side));
    }

over : (start end : ℕ) (a b c : List Run) (first final left right : Run) (m : List Run) → RisesFrom 0 (a ++ (b ++ c)) → AllByRecursion (λ r. r.start + r.len < start + 1) a → AllByRecursion (λ r. start + 1 ≤ r.start + r.len) (b ++ c) → AllByRecursion (λ r. r.start < end) b → AllByRecursion (λ r. end ≤ r.start) c → 0 < length b → first ≡ get_or b 0 first → final ≡ get_or b (length b - 1) final → IsHalved start end first final left right → Keeps left right m → IsCut start end (a ++ (b ++ c)) (a ++ (m ++ c))
over start end a [] c first final left right m h below reach starts above some is_first is_final is keeps = absurd (omega arith)
over start end a (r ∷ rs) c first final left right m h below reach starts above some is_first is_final is keeps =
    let place : suc (length rs) - 1 ≡ length rs = omega arith in
    let at_last : final ≡ last r rs = is_final ∙ ap (λ k. get_or (r ∷ rs) k final) place ∙ get_or-last r rs final in
    let P : Run → Type 0 = λ q. IsHalved start end q final left right in
    let Q : Run → Type 0 = λ q. IsHalved start end r q left right in
    cut_middle start end a r rs c left right m h below reach.0 starts above (subst Q at_last (subst P is_first is)) keeps

-- the two cases of the code
pub cut_across : (start end : ℕ) (runs : List Run) (i j : ℕ) (first final left right : Run) (m : List Run) → RisesFrom 0 runs → IsParted (start + 1) end runs i j → i < j → first ≡ get_or runs i first → final ≡ get_or runs (j - 1) final → IsHalved start end first final left right → Keeps left right m → IsCut start end runs (take i runs ++ (m ++ drop j runs))
cut_across start end runs i j first final left right m h parted lt is_first is_final is keeps =
    let within : j ≤ length runs = parted.within in
    let place : i + (j - i) ≡ j = omega arith in
    let count : length (take (j - i) (drop i runs)) ≡ j - i = length-take-le (j - i) (drop i runs) (omega (arith, length-drop i runs)) in
    let inner : take (j - i) (drop i runs) ++ drop (j - i) (drop i runs) ≡ drop i runs = take-append-drop (j - i) (drop i runs) in
    let whole : take i runs ++ (take (j - i) (drop i runs) ++ drop (j - i) (drop i runs)) ≡ runs = ap (λ xs. take i runs ++ xs) inner ∙ take-append-drop i runs in
    let tail : drop (j - i) (drop i runs) ≡ drop j runs = drop-drop (j - i) i runs ∙ ap (λ n. drop n runs) place in
    let place0 : i + 0 ≡ i = omega arith in
    let place1 : i + (j - i - 1) ≡ j - 1 = omega arith in
    let first_at : first ≡ get_or (take (j - i) (drop i runs)) 0 first = is_first ∙ ap (λ n. get_or runs n first) (sym place0) ∙ sym (get_or-drop i runs 0 first) ∙ sym (get_or-take (j - i) (drop i runs) 0 first (omega arith)) in
    let final_at : final ≡ get_or (take (j - i) (drop i runs)) (length (take (j - i) (drop i runs)) - 1) final = is_final ∙ ap (λ n. get_or runs n final) (sym place1) ∙ sym (get_or-drop i runs (j - i - 1) final) ∙ sym (get_or-take (j - i) (drop i runs) (j - i - 1) final (omega arith)) ∙ ap (λ n. get_or (take (j - i) (drop i runs)) (n - 1) final) (sym count) in
    let P : List Run → Type 0 = λ old. IsCut start end old (take i runs ++ (m ++ drop (j - i) (drop i runs))) in
    let Q : List Run → Type 0 = λ c. IsCut start end runs (take i runs ++ (m ++ c)) in
    subst Q tail (subst P whole (over start end (take i runs) (take (j - i) (drop i runs)) (drop (j - i) (drop i runs)) first final left right m (rw whole h) parted.below (rw inner parted.reaching) parted.starting (rw tail parted.above) (omega arith) first_at final_at is keeps))

pub cut_between : (start end : ℕ) (runs : List Run) (i j : ℕ) → RisesFrom 0 runs → IsParted (start + 1) end runs i j → i ≡ j → IsCut start end runs runs
cut_between start end runs i j h parted same =
    let P : ℕ → Type 0 = λ k. AllByRecursion (λ r. end ≤ r.start) (drop k runs) in
    let above : AllByRecursion (λ r. end ≤ r.start) (drop i runs) = subst P (sym same) parted.above in
    record {
      canonical = h;
      cut = λ s. (
        λ bad. let B : List Run → Type 0 = λ xs. IsBad xs s in (
          bad,
          elim (bad_side (take i runs) (drop i runs) s (subst B (sym (take-append-drop i runs)) bad)) [
            | inl left ↦ let lt = bad_before (start + 1) (take i runs) s parted.below left in let l : s < start = omega arith in inl l
            | inr right ↦ inr (bad_after end (drop i runs) s above right)
          ],
        ),
        λ old. old.0,
      );
    }

-- the same, from what the code reads and computes
pub cut_by_code : (start end : ℕ) (runs : List Run) (i j : ℕ) (first final : Run) (left_len last_end right_len : ℕ) (m : List Run) → RisesFrom 0 runs → IsParted (start + 1) end runs i j → i ≢ j → start < end → end ≤ 2 ^ 54 → first ≡ get_or runs i first → final ≡ get_or runs (j - 1) final → last_end ≡ min (final.start + final.len) (2 ^ 64 - 1) → left_len ≡ start - first.start → right_len ≡ last_end - end → Keeps (record { start = first.start; len = left_len }) (record { start = end; len = right_len }) m → IsCut start end runs (take i runs ++ (m ++ drop j runs))
cut_by_code start end runs i j first final left_len last_end right_len m h parted differ ordered fits is_first is_final is_end is_left is_right keeps =
    let sorted : i ≤ j = parted.ordered in
    let within : j ≤ length runs = parted.within in
    let some : i < j = omega arith in
    let bound = read_fits runs (j - 1) final h (omega arith) is_final in
    let left : Run = record { start = first.start; len = left_len } in
    let right : Run = record { start = end; len = right_len } in
    cut_across start end runs i j first final left right m h parted some is_first is_final (record {
      left_start = refl;
      left_len = is_left;
      right_start = refl;
      right_len = omega arith;
      ordered = ordered;
      fits = fits;
    }) keeps
