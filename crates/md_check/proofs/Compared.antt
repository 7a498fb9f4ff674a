-- A comparison, as more sectors are looked at.
use Rattle.std.proofs.Common.{◌≡◌, ◌≢◌, ◌⊎◌, inl, inr, ℕ, zero, suc, ◌<◌, ◌≤◌, List, [], ◌∷◌, length, get_or, refl, ap, sym, ◌∙◌, subst, arith}
use Rattle.std.proofs.lemmas.Bool.{cases_lt}
use Rattle.std.proofs.Math.Nat.{eq-or-lt_of_le}
use Rattle.md_bitmap.specs.declared.chunks.Chunks.{Chunks}
use Rattle.md_collect.specs.declared.found.Comparison.{Comparison}
use Rattle.md_collect.specs.declared.found.Pair.{Pair}
use Rattle.md_check.specs.Differences.{AddsCompared, AddsDifferent, AddsToPair, AddsToPairs, AreCompared, AreDifferent, DifferBetween, DifferIn, IsEmpty, IsSamePair, KeepsPairs}
use Rattle.md_collect.specs.Found.{IsSized}
use Rattle.md_check.specs.Pairs.{pair_names}
use Rattle.md_check.proofs.Differing.{adds_none, adds_then, between_as, differ_as, different_after, different_none}

pub same_or_other : (j k : ℕ) → (j ≡ k) ⊎ (j ≢ k)
same_or_other j k = elim (cases_lt j k) [
  | inl less ↦ inr (λ e. absurd (omega arith))
  | inr up ↦ elim (eq-or-lt_of_le up) [ inl same ↦ inl (sym same) | inr more ↦ inr (λ e. absurd (omega arith)) ]
]

-- ---- each pair stays that of its two members

pub pairs_stay : (found : Comparison) → KeepsPairs found found
pairs_stay found = record { chunks = refl; as_many = refl; each = λ p d below. record { one = refl; other = refl; chunks = refl } }

pub pairs_stay_then : (a b c : Comparison) → KeepsPairs a b → KeepsPairs b c → KeepsPairs a c
pairs_stay_then a b c first next = record {
  chunks = next.chunks ∙ first.chunks;
  as_many = next.as_many ∙ first.as_many;
  each = λ p d below.
      let x = first.each p d below in
      let y = next.each p d (let many = first.as_many in omega arith) in
      record { one = y.one ∙ x.one; other = y.other ∙ x.other; chunks = y.chunks ∙ x.chunks };
}

pub still_sized : (chunks : Chunks) (old new : Comparison) → KeepsPairs old new → IsSized chunks old → IsSized chunks new
still_sized chunks old new kept sized = record {
  sized = kept.chunks ∙ sized.sized;
  pairs_sized = λ p d below.
      let low : p < length old.pairs.items = let many = kept.as_many in omega arith in
      (kept.each p d low).chunks ∙ sized.pairs_sized p d low;
}

same_names : (olds news : List Pair) → length news ≡ length olds → ((p : ℕ) (d : Pair) → p < length olds → IsSamePair (get_or olds p d) (get_or news p d)) → pair_names news ≡ pair_names olds
same_names [] [] many each = refl
same_names [] (y ∷ ys) many each = absurd (omega arith)
same_names (x ∷ xs) [] many each = absurd (omega arith)
same_names (x ∷ xs) (y ∷ ys) many each =
    let first = each zero x (omega arith) in
    ap (λ n. (n, y.other) ∷ pair_names ys) first.one
    ∙ ap (λ n. (x.one, n) ∷ pair_names ys) first.other
    ∙ ap (λ names. (x.one, x.other) ∷ names) (same_names xs ys (omega arith) (λ p d below. each (suc p) d (omega arith)))

pub names_stay : (old new : Comparison) → KeepsPairs old new → pair_names new.pairs.items ≡ pair_names old.pairs.items
names_stay old new kept = same_names old.pairs.items new.pairs.items kept.as_many kept.each

-- ---- what is added

module _ (P : ℕ → ℕ → List ℕ → Type 0) where
  pub compared_keeps : (chunks : Chunks) (from end : ℕ) (old new : Comparison) → AddsCompared P chunks from end old new → KeepsPairs old new
  compared_keeps chunks from end old new adds = record {
    chunks = adds.some.chunks_kept;
    as_many = adds.pairs.as_many;
    each = λ p d below. let x = adds.pairs.each p d below in record { one = x.one_kept; other = x.other_kept; chunks = x.adds.chunks_kept };
  }

  -- before the first sector
  pub compared_none : (chunks : Chunks) (found : Comparison) → IsEmpty found → AreCompared P chunks 0 found
  compared_none chunks found empty = record {
    some = different_none (DifferIn P) chunks found.chunks empty.none;
    each = λ p d below. let pair = get_or found.pairs.items p d in different_none (DifferBetween P pair.one pair.other) chunks pair.chunks (empty.pairs_none p d below);
  }

  some_two : (one other s : ℕ) → DifferBetween P one other s → DifferIn P s
  some_two one other s d = record { one = one; other = other; between = d }

  -- nothing is added where no two differ
  pub pairs_as_were : (chunks : Chunks) (from end : ℕ) (pairs : List Pair) → ((s : ℕ) → from ≤ s → s < end → DifferIn P s → ⊥) → AddsToPairs P chunks from end pairs pairs
  pairs_as_were chunks from end pairs none = record {
    as_many = refl;
    each = λ p d below.
        let pair = get_or pairs p d in
        record {
          one_kept = refl;
          other_kept = refl;
          adds = adds_none (DifferBetween P pair.one pair.other) chunks from end pair.chunks (λ s up low differ. none s up low (some_two pair.one pair.other s differ));
        };
  }

  pub compared_as_was : (chunks : Chunks) (from end : ℕ) (found : Comparison) → ((s : ℕ) → from ≤ s → s < end → DifferIn P s → ⊥) → AddsCompared P chunks from end found found
  compared_as_was chunks from end found none = record {
    some = adds_none (DifferIn P) chunks from end found.chunks none;
    pairs = pairs_as_were chunks from end found.pairs.items none;
  }

  -- some sectors, and those behind them
  to_pair_then : (chunks : Chunks) (from mid end : ℕ) (old now new : Pair) → from ≤ mid → mid ≤ end → AddsToPair P chunks from mid old now → AddsToPair P chunks mid end now new → AddsToPair P chunks from end old new
  to_pair_then chunks from mid end old now new low high first next = record {
    one_kept = next.one_kept ∙ first.one_kept;
    other_kept = next.other_kept ∙ first.other_kept;
    adds = adds_then (DifferBetween P old.one old.other) chunks from mid end old.chunks now.chunks new.chunks low high first.adds
        (subst (λ n. AddsDifferent (DifferBetween P old.one n) chunks mid end now.chunks new.chunks) first.other_kept
        (subst (λ n. AddsDifferent (DifferBetween P n now.other) chunks mid end now.chunks new.chunks) first.one_kept next.adds));
  }

  pub compared_then : (chunks : Chunks) (from mid end : ℕ) (old now new : Comparison) → from ≤ mid → mid ≤ end → AddsCompared P chunks from mid old now → AddsCompared P chunks mid end now new → AddsCompared P chunks from end old new
  compared_then chunks from mid end old now new low high first next = record {
    some = adds_then (DifferIn P) chunks from mid end old.chunks now.chunks new.chunks low high first.some next.some;
    pairs = record {
      as_many = next.pairs.as_many ∙ first.pairs.as_many;
      each = λ p d below.
          to_pair_then chunks from mid end (get_or old.pairs.items p d) (get_or now.pairs.items p d) (get_or new.pairs.items p d) low high
          (first.pairs.each p d below) (next.pairs.each p d (let many = first.pairs.as_many in omega arith));
    };
  }

-- the comparison grows by sectors, in which Q says what P says
module _ (P Q : ℕ → ℕ → List ℕ → Type 0) where
  pub compared_after : (chunks : Chunks) (from end : ℕ) (old new : Comparison) → from ≤ end → AreCompared P chunks from old → AddsCompared Q chunks from end old new
      → ((s : ℕ) → from ≤ s → s < end → (k : ℕ) (bytes : List ℕ) → P k s bytes → Q k s bytes) → ((s : ℕ) → from ≤ s → s < end → (k : ℕ) (bytes : List ℕ) → Q k s bytes → P k s bytes)
      → AreCompared P chunks end new
  compared_after chunks from end old new up so_far adds via back = record {
    some = different_after (DifferIn P) (DifferIn Q) chunks from end old.chunks new.chunks up so_far.some adds.some (λ s low high. differ_as P Q s (via s low high)) (λ s low high. differ_as Q P s (back s low high));
    each = λ p d below.
        let low : p < length old.pairs.items = let many = adds.pairs.as_many in omega arith in
        let was = get_or old.pairs.items p d in
        let now = get_or new.pairs.items p d in
        let x = adds.pairs.each p d low in
        let here : AreDifferent (DifferBetween P was.one was.other) chunks end now.chunks =
        different_after (DifferBetween P was.one was.other) (DifferBetween Q was.one was.other) chunks from end was.chunks now.chunks up (so_far.each p d low) x.adds
        (λ s low high. between_as P Q was.one was.other s (via s low high)) (λ s low high. between_as Q P was.one was.other s (back s low high)) in
        subst (λ n. AreDifferent (DifferBetween P now.one n) chunks end now.chunks) (sym x.other_kept)
        (subst (λ n. AreDifferent (DifferBetween P n was.other) chunks end now.chunks) (sym x.one_kept) here);
  }
