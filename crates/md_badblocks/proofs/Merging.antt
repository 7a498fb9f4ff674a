-- A range of sectors, from `start` up to `end`, joined to a rising list: a are the runs below it, b those that it
-- touches, c those above.
use Rattle.std.proofs.Common.{◌≡◌, ℕ, ◌+◌, ◌^◌, ◌<◌, ◌≤◌, ◌⊎◌, ◌↔◌, inl, inr, min, max, List, [], ◌∷◌, ◌++◌, length, get_or, refl, arith}
use Rattle.std.proofs.lemmas.Bool.{cases_lt}
use Rattle.std.specs.List.{AllByRecursion}
use Rattle.md_badblocks.specs.declared.run.Run.{Run}
use Rattle.md_badblocks.specs.Runs.{LiesIn, IsBad, RisesFrom}
use Rattle.md_badblocks.proofs.Rising.{rises_weaker, next, rises_parts, rises_joined, next_below, bad_from, bad_left, bad_right, bad_side}

-- the last of some runs, of which r is the first
abbrev pub last : Run → List Run → Run
last r [] = r
last r (q ∷ rs) = last q rs

-- where it ends
abbrev pub last_end : Run → List Run → ℕ
last_end r rs = (last r rs).start + (last r rs).len

pub get_or-last : (r : Run) (rs : List Run) (d : Run) → get_or (r ∷ rs) (length rs) d ≡ last r rs
get_or-last r [] d = refl
get_or-last r (q ∷ rs) d = get_or-last q rs d

pub all_last : (P : Run → Type 0) (r : Run) (rs : List Run) → AllByRecursion P (r ∷ rs) → P (last r rs)
all_last P r [] all = all.0
all_last P r (q ∷ rs) all = all_last P q rs all.1

pub last_bad : (r : Run) (rs : List Run) (s : ℕ) → LiesIn s (last r rs) → IsBad (r ∷ rs) s
last_bad r [] s h = inl h
last_bad r (q ∷ rs) s h = inr (last_bad q rs s h)

-- the last run of a rising list
pub record IsLastOf (low : ℕ) (r : Run) (rs : List Run) : Type 0 where
  pub rises : low ≤ last_end r rs
  pub past_first : r.start + r.len ≤ last_end r rs
  pub fits : last_end r rs ≤ 2 ^ 54
  pub then : next low (r ∷ rs) ≡ last_end r rs + 1

pub last_of : (low : ℕ) (r : Run) (rs : List Run) → RisesFrom low (r ∷ rs) → IsLastOf low r rs
last_of low r [] h =
    record { rises = omega arith; past_first = omega arith; fits = h.2; then = refl }
last_of low r (q ∷ rs) h =
    let rest = last_of (r.start + r.len + 1) q rs h.3 in
    record { rises = omega arith; past_first = omega arith; fits = rest.fits; then = rest.then }

-- no sector lies past its end
pub bad_to_last : (low : ℕ) (r : Run) (rs : List Run) (s : ℕ) → RisesFrom low (r ∷ rs) → IsBad (r ∷ rs) s → s < last_end r rs
bad_to_last low r [] s h bad = elim bad [ inl here ↦ here.1 | inr none ↦ absurd none ]
bad_to_last low r (q ∷ rs) s h bad =
    let rest = last_of (r.start + r.len + 1) q rs h.3 in
    elim bad [ inl here ↦ omega arith | inr later ↦ bad_to_last (r.start + r.len + 1) q rs s h.3 later ]

-- the sectors of a list whose middle is replaced by one that has Q besides
pub middle_joined : (a b c m : List Run) (s : ℕ) (Q : Type 0) → (IsBad m s ↔ (IsBad b s ⊎ Q)) → IsBad (a ++ (m ++ c)) s ↔ (IsBad (a ++ (b ++ c)) s ⊎ Q)
middle_joined a b c m s Q e = (
  λ new. elim (bad_side a (m ++ c) s new) [
    | inl left ↦ inl (bad_left a (b ++ c) s left)
    | inr rest ↦
        elim (bad_side m c s rest) [
          | inl middle ↦
              elim (e.0 middle) [ inl was ↦ inl (bad_right a (b ++ c) s (bad_left b c s was)) | inr q ↦ inr q ]
          | inr right ↦ inl (bad_right a (b ++ c) s (bad_right b c s right))
        ]
  ],
  λ old. elim old [
    | inl was ↦
        elim (bad_side a (b ++ c) s was) [
          | inl left ↦ bad_left a (m ++ c) s left
          | inr rest ↦
              elim (bad_side b c s rest) [
                | inl middle ↦ bad_right a (m ++ c) s (bad_left m c s (e.1 (inl middle)))
                | inr right ↦ bad_right a (m ++ c) s (bad_right m c s right)
              ]
        ]
    | inr q ↦ bad_right a (m ++ c) s (bad_left m c s (e.1 (inr q)))
  ],
)

-- the run m that takes the place of those touched
pub record IsMerged (start end : ℕ) (r : Run) (rs : List Run) (m : Run) : Type 0 where
  pub from : m.start ≡ min r.start start
  pub to : m.start + m.len ≡ max (last_end r rs) end
  pub touches_first : start ≤ r.start + r.len
  pub touches_last : (last r rs).start ≤ end
  pub ordered : start < end

merged_lies : (low start end : ℕ) (r : Run) (rs : List Run) (m : Run) (s : ℕ) → RisesFrom low (r ∷ rs) → IsMerged start end r rs m → LiesIn s m → IsBad (r ∷ rs) s ⊎ ((start ≤ s) × (s < end))
merged_lies low start end r rs m s h is lies =
    elim (cases_lt s start) [
      | inl below ↦ let here : LiesIn s r = (omega arith, omega arith) in inl (inl here)
      | inr from ↦
          elim (cases_lt s end) [ inl to ↦ inr (from, to) | inr above ↦ inl (last_bad r rs s (omega arith, omega arith)) ]
    ]

merged_was : (low start end : ℕ) (r : Run) (rs : List Run) (m : Run) (s : ℕ) → RisesFrom low (r ∷ rs) → IsMerged start end r rs m → IsBad (r ∷ rs) s → LiesIn s m
merged_was low start end r rs m s h is bad =
    let from : r.start ≤ s = bad_from r.start (r ∷ rs) s (omega arith, h.1, h.2, h.3) bad in
    let to = bad_to_last low r rs s h bad in
    (omega arith, omega arith)

pub merged_bad : (low start end : ℕ) (r : Run) (rs : List Run) (m : Run) (s : ℕ) → RisesFrom low (r ∷ rs) → IsMerged start end r rs m → IsBad (m ∷ []) s ↔ (IsBad (r ∷ rs) s ⊎ ((start ≤ s) × (s < end)))
merged_bad low start end r rs m s h is = (
  λ new. elim new [ inl here ↦ merged_lies low start end r rs m s h is here | inr none ↦ absurd none ],
  λ old. elim old [
    | inl was ↦ inl (merged_was low start end r rs m s h is was)
    | inr range ↦ let from : start ≤ s = range.0 in let to : s < end = range.1 in inl (omega arith, omega arith)
  ],
)

rises_above : (was end new : ℕ) (c : List Run) → RisesFrom (was + 1) c → AllByRecursion (λ r. end + 1 ≤ r.start) c → new ≡ max was end → RisesFrom (new + 1) c
rises_above was end new [] h all e = tt
rises_above was end new (r ∷ rs) h all e = let above : end + 1 ≤ r.start = all.0 in (omega arith, h.1, h.2, h.3)

pub merged_rises : (start end : ℕ) (a : List Run) (r : Run) (rs c : List Run) (m : Run) → RisesFrom 0 (a ++ ((r ∷ rs) ++ c)) → AllByRecursion (λ q. q.start + q.len < start) a → AllByRecursion (λ q. end + 1 ≤ q.start) c → end ≤ 2 ^ 54 → IsMerged start end r rs m → RisesFrom 0 (a ++ m ∷ c)
merged_rises start end a r rs c m h below above fits is =
    let parts = rises_parts 0 a ((r ∷ rs) ++ c) h in
    let inner = rises_parts (next 0 a) (r ∷ rs) c parts.1 in
    let final = last_of (next 0 a) r rs inner.0 in
    let under : next 0 a ≤ start = next_below 0 start a (omega arith) below in
    let begins : next 0 a ≤ r.start = inner.0.0 in
    let behind : RisesFrom (last_end r rs + 1) c = rises_weaker (last_end r rs + 1) (next (next 0 a) (r ∷ rs)) c (omega arith) inner.1 in
    rises_joined 0 a (m ∷ c) parts.0 (omega arith, omega arith, omega arith, rises_above (last_end r rs) end (m.start + m.len) c behind above is.to)
