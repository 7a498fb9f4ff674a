-- Sets of chunks in which members differ, as more sectors are looked at.
use Rattle.std.proofs.Common.{◌≡◌, ℕ, ◌+◌, ◌/◌, ◌<◌, ◌≤◌, ◌==◌, ◌||◌, Bool, true, false, List, inl, inr, refl, ap, sym, ◌∙◌, subst, arith}
use Rattle.std.proofs.lemmas.Bool.{cases_lt}
use Rattle.md_bitmap.specs.declared.chunks.Chunks.{Chunks}
use Rattle.md_bitmap.specs.Chunks.{InChunk}
use Rattle.md_bitmap.specs.Marks.{Bitmap, is_set}
use Rattle.md_collect.proofs.WorkerLemmas.Tests.{has_new, has_old, has_either}
use Rattle.md_check.specs.Differences.{AddsDifferent, AreDifferent, DifferBetween, DifferIn, DifferWithin, IsEmptySet}
use Rattle.md_check.proofs.ChunkSectors.{chunk_is, in_its_chunk}

no_test : (b : Bool) → b ≡ true → b ≡ false → ⊥
no_test b t f = cc

-- two ways to say what members show
module _ (P Q : ℕ → ℕ → List ℕ → Type 0) where
  pub between_as : (one other s : ℕ) → ((k : ℕ) (bytes : List ℕ) → P k s bytes → Q k s bytes) → DifferBetween P one other s → DifferBetween Q one other s
  between_as one other s via d = record {
    bytes = d.bytes;
    other_bytes = d.other_bytes;
    shows = via one d.bytes d.shows;
    shows_other = via other d.other_bytes d.shows_other;
    differ = d.differ;
  }

  pub differ_as : (s : ℕ) → ((k : ℕ) (bytes : List ℕ) → P k s bytes → Q k s bytes) → DifferIn P s → DifferIn Q s
  differ_as s via d = record { one = d.one; other = d.other; between = between_as d.one d.other s via d.between }

-- two ways to say in which sectors they differ
module _ (A B : ℕ → Type 0) where
  -- the set grows by sectors, in which B says what A says
  pub different_after : (chunks : Chunks) (from end : ℕ) (old new : Bitmap) → from ≤ end → AreDifferent A chunks from old → AddsDifferent B chunks from end old new
      → ((s : ℕ) → from ≤ s → s < end → A s → B s) → ((s : ℕ) → from ≤ s → s < end → B s → A s) → AreDifferent A chunks end new
  different_after chunks from end old new up so_far adds via back = record {
    bits = λ c. (
      λ e. elim ((adds.bits c).0 e) [
        | inl was ↦ let d = (so_far.bits c).0 was in record { sector = d.sector; inside = d.inside; not_before = omega arith; before = let b = d.before in omega arith; differ = d.differ }
        | inr d ↦ record { sector = d.sector; inside = d.inside; not_before = omega arith; before = d.before; differ = back d.sector d.not_before d.before d.differ }
      ],
      λ d. elim (cases_lt d.sector from) [
        | inl early ↦ (adds.bits c).1 (inl ((so_far.bits c).1 (record { sector = d.sector; inside = d.inside; not_before = omega arith; before = early; differ = d.differ })))
        | inr late ↦ (adds.bits c).1 (inr (record { sector = d.sector; inside = d.inside; not_before = late; before = d.before; differ = via d.sector late d.before d.differ }))
      ],
    );
  }

module _ (A : ℕ → Type 0) where
  -- before the first sector
  pub different_none : (chunks : Chunks) (marks : Bitmap) → IsEmptySet marks → AreDifferent A chunks 0 marks
  different_none chunks marks none = record { bits = λ c. (λ e. absurd (no_test (is_set marks.bytes c) e (none c)), λ d. absurd (let b = d.before in omega arith)) }

  -- nothing is added where nothing differs
  pub adds_none : (chunks : Chunks) (from end : ℕ) (marks : Bitmap) → ((s : ℕ) → from ≤ s → s < end → A s → ⊥) → AddsDifferent A chunks from end marks marks
  adds_none chunks from end marks none = record {
    chunks_kept = refl;
    bits = λ c. (λ e. inl e, λ either. elim either [ inl e ↦ e | inr d ↦ absurd (none d.sector d.not_before d.before d.differ) ]);
  }

  wider : (chunks : Chunks) (from mid to end c : ℕ) → from ≤ mid → to ≤ end → DifferWithin A chunks mid to c → DifferWithin A chunks from end c
  wider chunks from mid to end c low high d = record { sector = d.sector; inside = d.inside; not_before = let b = d.not_before in omega arith; before = let b = d.before in omega arith; differ = d.differ }

  -- some sectors, and those behind them
  pub adds_then : (chunks : Chunks) (from mid end : ℕ) (old now new : Bitmap) → from ≤ mid → mid ≤ end → AddsDifferent A chunks from mid old now → AddsDifferent A chunks mid end now new → AddsDifferent A chunks from end old new
  adds_then chunks from mid end old now new low high first next = record {
    chunks_kept = next.chunks_kept ∙ first.chunks_kept;
    bits = λ c. (
      λ e. elim ((next.bits c).0 e) [
        | inl was ↦ elim ((first.bits c).0 was) [ inl before ↦ inl before | inr d ↦ inr (wider chunks from from mid end c (omega arith) high d) ]
        | inr d ↦ inr (wider chunks from mid end end c low (omega arith) d)
      ],
      λ either. elim either [
        | inl was ↦ (next.bits c).1 (inl ((first.bits c).1 (inl was)))
        | inr d ↦ elim (cases_lt d.sector mid) [
          | inl early ↦ (next.bits c).1 (inl ((first.bits c).1 (inr (record { sector = d.sector; inside = d.inside; not_before = d.not_before; before = early; differ = d.differ }))))
          | inr late ↦ (next.bits c).1 (inr (record { sector = d.sector; inside = d.inside; not_before = late; before = d.before; differ = d.differ }))
        ]
      ],
    );
  }

  -- the chunk of a sector alone
  module _ (chunks : Chunks) (sector chunk : ℕ) (inside : sector < chunks.size) (is : chunk ≡ sector / chunks.sectors) where
    its_chunk : (c : ℕ) → DifferWithin A chunks sector (sector + 1) c → c ≡ chunk
    its_chunk c d =
        let same : d.sector ≡ sector = (let low = d.not_before in let high = d.before in omega arith) in
        chunk_is chunks.sectors chunks.size c d.sector chunks.chunking.some_sectors d.inside ∙ ap (λ s. s / chunks.sectors) same ∙ sym is

    in_it : A sector → (c : ℕ) → c ≡ chunk → DifferWithin A chunks sector (sector + 1) c
    in_it differ c same = record {
      sector = sector;
      inside = subst (λ n. InChunk chunks.sectors chunks.size n sector) (sym (same ∙ is)) (in_its_chunk chunks.sectors chunks.size sector chunks.chunking.some_sectors inside);
      not_before = omega arith;
      before = omega arith;
      differ = differ;
    }

    -- members differ in the sector, and its chunk is marked
    pub adds_here : (old new : Bitmap) → new.chunks ≡ old.chunks → ((c : ℕ) → is_set new.bytes c ≡ (c == chunk || is_set old.bytes c)) → A sector → AddsDifferent A chunks sector (sector + 1) old new
    adds_here old new kept bits differ = record {
      chunks_kept = kept;
      bits = λ c. (
        λ e. elim (has_either (is_set new.bytes) (is_set old.bytes) chunk bits c e) [ inl same ↦ inr (in_it differ c same) | inr was ↦ inl was ],
        λ either. elim either [
          | inl was ↦ has_old (is_set new.bytes) (is_set old.bytes) chunk bits c was
          | inr d ↦ subst (λ n. is_set new.bytes n ≡ true) (sym (its_chunk c d)) (has_new (is_set new.bytes) (is_set old.bytes) chunk bits)
        ],
      );
    }

    -- its chunk was marked before, whether they differ or not
    pub adds_marked : (marks : Bitmap) → is_set marks.bytes chunk ≡ true → AddsDifferent A chunks sector (sector + 1) marks marks
    adds_marked marks there = record {
      chunks_kept = refl;
      bits = λ c. (λ e. inl e, λ either. elim either [ inl e ↦ e | inr d ↦ subst (λ n. is_set marks.bytes n ≡ true) (sym (its_chunk c d)) there ]);
    }
