-- What an enrolment asks of chunks, said of their sectors.
use Rattle.std.proofs.Common.{◌≡◌, ℕ, ◌+◌, ◌*◌, ◌/◌, ◌<◌, ◌≤◌, ◌⊎◌, inl, inr, Bool, true, false, true≢false, ◌&&◌, nat_lt, List, slice_get, Some, refl, sym, ap, ◌∙◌, subst, arith, lt-ltb, ltb-true}
use Rattle.std.specs.Int.{div_ceil}
use Rattle.std.proofs.lemmas.Bool.{and_from, and_parts}
use Rattle.std.proofs.lemmas.Nat.{div_below}
use Rattle.std.proofs.lemmas.Grind.{div_ceil_times}
use Rattle.md_bitmap.specs.Marks.{Bitmap, is_set}
use Rattle.md_kept_members.specs.SectorLists.{in_chunks}
use Rattle.md_model.proofs.Cases.{by_test}
use Rattle.md_state.specs.View.{MirrorView}
use Rattle.md_array.specs.Consistency.{IsConsistent}
use Rattle.md_array.specs.Steps.Enrol.{MayEnrol, MayEnrolSectors}
use Rattle.md_array.proofs.Rebuilding.HeldContent.{its_chunk}

module _ (k : ℕ) (copied orphans : Bitmap) (v : MirrorView) (c : IsConsistent v) (may : MayEnrol k copied orphans v) where
  abbrev size : ℕ
  size = v.array.chunks.size

  abbrev chunk : ℕ → ℕ
  chunk s = s / v.array.chunks.sectors

  low_chunk : (s : ℕ) → s < size → chunk s < v.array.marks.chunks
  low_chunk s low =
      let bounds = div_ceil_times size v.array.chunks.sectors c.chunks.wide in
      subst (λ (x : ℕ). chunk s < x) (sym c.chunks.count) (div_below s v.array.chunks.sectors (div_ceil size v.array.chunks.sectors) c.chunks.wide (omega (arith, bounds.0)))

  has : (set : Bitmap) (s : ℕ) → in_chunks v.array.chunks set s ≡ true → (s < size) × (is_set set.bytes (chunk s) ≡ true)
  has set s is =
      let e = and_parts (nat_lt s size) (nat_lt (chunk s) set.chunks && is_set set.bytes (chunk s)) is in
      (ltb-true s size e.0, (and_parts (nat_lt (chunk s) set.chunks) (is_set set.bytes (chunk s)) e.1).1)

  of : (set : Bitmap) → set.chunks ≡ v.array.marks.chunks → (s : ℕ) → s < size → is_set set.bytes (chunk s) ≡ true → in_chunks v.array.chunks set s ≡ true
  of set all s low is =
      let early : chunk s < set.chunks = subst (λ (x : ℕ). chunk s < x) (sym all) (low_chunk s low) in
      and_from (nat_lt s size) (nat_lt (chunk s) set.chunks && is_set set.bytes (chunk s)) (lt-ltb s size low)
      (and_from (nat_lt (chunk s) set.chunks) (is_set set.bytes (chunk s)) (lt-ltb (chunk s) set.chunks early) is)

  pub may_by_chunks : MayEnrolSectors k (in_chunks v.array.chunks copied) (in_chunks v.array.chunks orphans) v
  may_by_chunks = record {
    member = may.member;
    at = may.at;
    recovering = may.recovering;
    resynced = may.resynced;
    idle = may.idle;
    disjoint = λ s is. by_test (in_chunks v.array.chunks orphans s)
        (λ both. let a = has copied s is in absurd (true≢false (sym (has orphans s both).1 ∙ may.disjoint (chunk s) (low_chunk s a.0) a.1)))
        (λ none. none);
    cover = λ s low missing. elim (may.cover (chunk s) (low_chunk s low) missing) [
      | inl is ↦ inl (of copied may.copied_chunks s low is)
      | inr is ↦ inr (of orphans may.orphan_chunks s low is)
    ];
    only = λ s either. elim either [
      | inl is ↦ let a = has copied s is in (a.0, may.only (chunk s) (low_chunk s a.0) (inl a.1))
      | inr is ↦ let a = has orphans s is in (a.0, may.only (chunk s) (low_chunk s a.0) (inr a.1))
    ];
    holds = λ honest content held d m there at s is.
        let a = has copied s is in
        may.holds honest content held d m there at (chunk s) s (subst (λ (x : ℕ). chunk s < x) (sym may.copied_chunks) (low_chunk s a.0)) a.1
        (its_chunk size v.array.chunks.sectors s c.chunks.wide a.0);
  }
