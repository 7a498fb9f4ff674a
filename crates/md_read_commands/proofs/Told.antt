-- What a watch is told of sectors that were not given.
use Rattle.std.proofs.Common.{◌≡◌, inl, inr, ℕ, List, [], subst}
use Rattle.md_badblocks.specs.declared.run.Run.{Run}
use Rattle.md_badblocks.specs.Runs.{IsBad}
use Rattle.md_streams.specs.declared.gaps.Gaps.{Gaps}
use Rattle.md_streams.specs.Gaps.{AreTold, HasBoth, HasBothGaps, HasNoGaps, HasSomeGapsOf, HasSomeOf}

module _ (Told : ℕ → Type 0) where
  none_told : (runs : List Run) → runs ≡ [] → (s : ℕ) → IsBad runs s → Told s
  none_told runs none s bad = absurd (subst (λ (m : List Run). IsBad m s) none bad)

  module _ (was more now : List Run) (told_before : (s : ℕ) → IsBad was s → Told s) (told_more : (s : ℕ) → IsBad more s → Told s) where
    both_told : HasBoth was more now → (s : ℕ) → IsBad now s → Told s
    both_told both s bad = elim ((both s).0 bad) [ inl old ↦ told_before s old | inr new ↦ told_more s new ]

    some_told : HasSomeOf was more now → (s : ℕ) → IsBad now s → Told s
    some_told some s bad = elim (some.1 s bad) [ inl old ↦ told_before s old | inr new ↦ told_more s new ]

module _ (Misses Takes : ℕ → Type 0) where
  pub no_gaps_told : (gaps : Gaps) → HasNoGaps gaps → AreTold Misses Takes gaps
  no_gaps_told gaps none = (none_told Misses gaps.missing none.0, none_told Takes gaps.others none.1)

  module _ (was more now : Gaps) (before : AreTold Misses Takes was) (told : AreTold Misses Takes more) where
    pub all_told : HasBothGaps was more now → AreTold Misses Takes now
    all_told both = (both_told Misses was.missing more.missing now.missing before.0 told.0 both.0, both_told Takes was.others more.others now.others before.1 told.1 both.1)

    pub few_told : HasSomeGapsOf was more now → AreTold Misses Takes now
    few_told some = (some_told Misses was.missing more.missing now.missing before.0 told.0 some.0, some_told Takes was.others more.others now.others before.1 told.1 some.1)
