-- The sectors of two sets in one.
use Rattle.std.proofs.Common.{ap, ◌∙◌, ◌≡◌, ◌⊎◌, ◌↔◌, inl, inr, ℕ, ◌+◌, ◌<◌, ◌≤◌, ◌^◌, List, [], ◌∷◌, ◌++◌, refl, sym, subst, arith}
use Rattle.std.proofs.lemmas.List.Elements.{All-append, All-cons, All-nil}
use Rattle.md_badblocks.specs.declared.run.Run.{Run}
use Rattle.md_badblocks.specs.Runs.{IsBad, IsCanonical, RisesFrom}
use Rattle.md_streams.specs.declared.gaps.Gaps.{Gaps}
use Rattle.md_streams.specs.Gaps.{AreFit, HasBoth, HasBothGaps, HasNoGaps, HasSomeOf, IsGap, no_gaps}

-- a set to which runs were added, of which the rest is to come
abbrev pub IsJoinedTo : List Run → List Run → List Run → List Run → Type 0
IsJoinedTo base runs rest now = (s : ℕ) → (IsBad base s ⊎ IsBad runs s) ↔ (IsBad now s ⊎ IsBad rest s)

-- none that it had is gone
abbrev pub HasKept : List Run → List Run → Type 0
HasKept base now = (s : ℕ) → IsBad base s → IsBad now s

pub joined_more : (base runs rest old new : List Run) (run : Run) → run.start + run.len ≤ 2 ^ 54 → IsJoinedTo base runs (run ∷ rest) old
    → ((s : ℕ) → IsBad new s ↔ (IsBad old s ⊎ ((run.start ≤ s) × (s < run.start + run.len) × (s < 2 ^ 54)))) → IsJoinedTo base runs rest new
joined_more base runs rest old new run fits before added s = (
  λ either. elim ((before s).0 either) [
    | inl made ↦ inl ((added s).1 (inl made))
    | inr left ↦ elim left [
      | inl here ↦ let below = here.1 in inl ((added s).1 (inr (here.0, here.1, omega arith)))
      | inr later ↦ inr later
    ]
  ],
  λ either. elim either [
    | inl made ↦ elim ((added s).0 made) [
      | inl was ↦ (before s).1 (inl was)
      | inr here ↦ (before s).1 (inr (inl (here.0, here.1)))
    ]
    | inr later ↦ (before s).1 (inr (inr later))
  ],
)

pub joined_none : (base runs : List Run) → IsJoinedTo base runs runs base
joined_none base runs s = (λ either. either, λ either. either)

pub joined_all : (base runs rest now : List Run) → rest ≡ [] → IsJoinedTo base runs rest now → HasBoth base runs now
joined_all base runs rest now none joined s = (
  λ bad. (joined s).1 (inl bad),
  λ either. elim ((joined s).0 either) [ inl is ↦ is | inr left ↦ absurd (subst (λ (xs : List Run). IsBad xs s) none left) ],
)

-- nothing and then two sets
pub both_of_two : (none one other first both : List Run) → none ≡ [] → HasBoth none one first → HasBoth first other both → HasBoth one other both
both_of_two none one other first both is_none begun ended s = (
  λ bad. elim ((ended s).0 bad) [
    | inl early ↦ elim ((begun s).0 early) [
      | inl never ↦ absurd (subst (λ (xs : List Run). IsBad xs s) is_none never)
      | inr is ↦ inl is
    ]
    | inr late ↦ inr late
  ],
  λ either. (ended s).1 (elim either [ inl is ↦ inl ((begun s).1 (inr is)) | inr is ↦ inr is ]),
)

pub nothing_more : (one other : List Run) → other ≡ [] → HasBoth one other one
nothing_more one other none s = (
  λ bad. inl bad,
  λ either. elim either [ inl is ↦ is | inr never ↦ absurd (subst (λ (xs : List Run). IsBad xs s) none never) ],
)

pub kept_more : (base old new : List Run) (start len : ℕ) → HasKept base old → ((s : ℕ) → IsBad new s ↔ (IsBad old s ⊎ ((start ≤ s) × (s < start + len) × (s < 2 ^ 54)))) → HasKept base new
kept_more base old new start len kept added s bad = (added s).1 (inl (kept s bad))

-- there is no memory for the next
pub joined_in_part : (base runs rest old new : List Run) → new ≡ old → HasKept base old → IsJoinedTo base runs rest old → HasSomeOf base runs new
joined_in_part base runs rest old new same kept joined =
    subst (HasSomeOf base runs) (sym same) (kept, λ s bad. (joined s).1 (inl bad))

-- one sector of a list that is not empty
pub some_bad : (runs : List Run) → AreFit runs → (runs ≡ [] → ⊥) → (s : ℕ) × IsBad runs s
some_bad [] fit some = absurd (some refl)
some_bad (run ∷ runs) fit some = let long = (fit 0 run (omega arith)).0 in (run.start, inl (omega arith, omega arith))

pub some_gap : (missing others : List Run) → AreFit missing → AreFit others → ((missing ≡ []) × (others ≡ []) → ⊥) → (s : ℕ) × (IsBad missing s ⊎ IsBad others s)
some_gap [] others fit_missing fit_others some = let bad = some_bad others fit_others (λ none. some (refl, none)) in (bad.0, inr bad.1)
some_gap (run ∷ runs) others fit_missing fit_others some = let long = (fit_missing 0 run (omega arith)).0 in (run.start, inl (inl (omega arith, omega arith)))

-- a set's runs are fit
fit_from : (low : ℕ) (runs : List Run) → RisesFrom low runs → AreFit runs
fit_from low [] rises = All-nil (λ run. (0 < run.len) × (run.start + run.len ≤ 2 ^ 54))
fit_from low (run ∷ runs) rises =
    All-cons (λ (r : Run). (0 < r.len) × (r.start + r.len ≤ 2 ^ 54)) run runs (rises.1, rises.2) (fit_from (run.start + run.len + 1) runs rises.3)

pub canonical_fit : (runs : List Run) → IsCanonical runs → AreFit runs
canonical_fit runs canonical = fit_from 0 runs canonical

-- one sector more
pub fit_more : (runs : List Run) (run : Run) → AreFit runs → 0 < run.len → run.start + run.len ≤ 2 ^ 54 → AreFit (runs ++ run ∷ [])
fit_more runs run fit some low =
    let P : Run → Type 0 = λ r. (0 < r.len) × (r.start + r.len ≤ 2 ^ 54) in
    All-append P runs (run ∷ []) fit (All-cons P run [] (some, low) (All-nil P))

-- a list behind another
pub bad_both : (one other : List Run) (s : ℕ) → IsBad (one ++ other) s ↔ (IsBad one s ⊎ IsBad other s)
bad_both [] other s = (λ bad. inr bad, λ either. elim either [ inl never ↦ absurd never | inr bad ↦ bad ])
bad_both (run ∷ one) other s = (
  λ bad. elim bad [
    | inl here ↦ inl (inl here)
    | inr later ↦ elim ((bad_both one other s).0 later) [ inl is ↦ inl (inr is) | inr is ↦ inr is ]
  ],
  λ either. elim either [
    | inl first ↦ elim first [ inl here ↦ inl here | inr is ↦ inr ((bad_both one other s).1 (inl is)) ]
    | inr is ↦ inr ((bad_both one other s).1 (inr is))
  ],
)

-- nothing was added
pub none_added : (was more : List Run) → HasSomeOf was more was
none_added was more = (λ s bad. bad, λ s bad. inl bad)

-- all were
pub all_added : (was more now : List Run) → HasBoth was more now → HasSomeOf was more now
all_added was more now both = (λ s bad. (both s).1 (inl bad), λ s bad. (both s).0 bad)

-- of an empty list
pub none_fit : (runs : List Run) → runs ≡ [] → AreFit runs
none_fit runs none = subst AreFit (sym none) (All-nil (λ run. (0 < run.len) × (run.start + run.len ≤ 2 ^ 54)))

-- where there are none
pub none_gap : (gaps : Gaps) → HasNoGaps gaps → (s : ℕ) → IsGap gaps s → ⊥
none_gap gaps none s gap = elim gap [
  | inl bad ↦ absurd (subst (λ (l : List Run). IsBad l s) none.0 bad)
  | inr bad ↦ absurd (subst (λ (l : List Run). IsBad l s) none.1 bad)
]

pub none_clear : (gaps : Gaps) → HasNoGaps gaps → (sector s : ℕ) → IsGap gaps s → s < sector
none_clear gaps none sector s gap = absurd (none_gap gaps none s gap)

-- there is one record of none
pub no_gaps_is : (gaps : Gaps) → HasNoGaps gaps → gaps ≡ no_gaps
no_gaps_is gaps none =
    ap (λ (l : List Run). record { missing = l; others = gaps.others }) none.0
    ∙ ap (λ (l : List Run). record { missing = []; others = l }) none.1

pub nothing_noted : (one other : Gaps) → HasNoGaps other → HasBothGaps one other one
nothing_noted one other none = (nothing_more one.missing other.missing none.0, nothing_more one.others other.others none.1)
