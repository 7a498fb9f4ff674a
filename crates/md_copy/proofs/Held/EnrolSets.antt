-- The sets with which the target comes into sync.
use Rattle.std.proofs.Common.{◌≡◌, ◌∙◌, ◌+◌, ◌<◌, ◌==◌, ◌&&◌, ℕ, true, false, not, List, length, Contains, All, get_or, refl, sym, ap, subst, arith, inl, inr}
use Rattle.std.specs.List.{range_with_len}
use Rattle.std.proofs.lemmas.Bool.{and_parts, both_ways, cases_Bool, eq-eqb, eqb-true, not-true}
use Rattle.std.proofs.lemmas.List.Elements.{All-filter, filter_passes}
use Rattle.std.proofs.lemmas.List.Folds.{Any-from_list_any, list_any_at}
use Rattle.std.proofs.lemmas.List.FromFn.{get_or-range_with_len, length-range_with_len}
use Rattle.md_bitmap.specs.Marks.{Bitmap, is_set}
use Rattle.md_kept_members.specs.View.{MemberView}
use Rattle.md_pass.proofs.FilteredLists.{kept}
use Rattle.md_cert.specs.declared.planned.Planned.{Planned}
use Rattle.md_state.specs.Members.{IsMember}
use Rattle.md_state.specs.View.{ArrayView, MirrorView}
use Rattle.md_array.specs.Steps.Enrol.{EnrolsChunks, MayEnrol}
use Rattle.md_copy.specs.declared.beginning.fault.RebuildFault.{RebuildFault}
use Rattle.md_copy.specs.declared.beginning.fault.RebuildFault.TheVariants.{Halted, NotSpare, Dirty, InFlight, LogFull, NoMemory, TargetFault, MetadataFault, EventsFull}
use Rattle.md_copy.specs.Table.Orphans.{is_in, uncopied_chunks}
use Rattle.md_copy.specs.Table.Sources.{LacksChunk, is_missing, missing_chunks}
use Rattle.md_copy.specs.declared.rebuilt.Rebuilt.{Rebuilt}
use Rattle.md_copy.specs.Ending.Enrolled.{EnrolsCopied, FailsCopied, HasSets, RefusesFilledTarget}
use Rattle.md_copy.specs.Passes.Held.{AreHeld}
use Rattle.md_copy.specs.Ending.Leaving.{MayRecordAtEnd}
use Rattle.md_copy.specs.Readying.Ready.{IsReadyToCopy}
use Rattle.md_copy.proofs.Held.HeldChunks.{holds_of, recordable}
use Rattle.md_copy.proofs.Plans.PlanChunks.{all_lacking, count}

-- ---- the chunks that were not copied
module _ (a : ArrayView) (m : MemberView) (copied : Bitmap) where
  pub all_uncopied : All (LacksChunk a m) (uncopied_chunks a m copied)
  all_uncopied = All-filter (λ c. not (is_set copied.bytes c)) (LacksChunk a m) (missing_chunks a m) (all_lacking a m)

  pub uncopied_low : All (λ c. c < count a) (uncopied_chunks a m copied)
  uncopied_low k d below = (all_uncopied k d below).low

  pub uncopied_is : (c : ℕ) → is_in (uncopied_chunks a m copied) c ≡ true → LacksChunk a m c × (is_set copied.bytes c ≡ false)
  uncopied_is c is =
      let chunks = uncopied_chunks a m copied in
      let found = Any-from_list_any (λ chunk. chunk == c) chunks is in
      let same : get_or chunks found.0 found.1 ≡ c = found.3 ∙ eqb-true found.1 c found.4 in (
        subst (LacksChunk a m) same (all_uncopied found.0 found.1 found.2),
        subst (λ n. is_set copied.bytes n ≡ false) same (not-true (is_set copied.bytes (get_or chunks found.0 found.1)) (filter_passes (λ n. not (is_set copied.bytes n)) (missing_chunks a m) found.0 found.1 found.2)),
      )

  pub is_uncopied : (c : ℕ) → c < count a → is_missing a m c ≡ true → is_set copied.bytes c ≡ false → is_in (uncopied_chunks a m copied) c ≡ true
  is_uncopied c low missing clear =
      let chunks = uncopied_chunks a m copied in
      let many = length-range_with_len 0 (count a) in
      let whole : 0 + c ≡ c = omega arith in
      let number : Contains (range_with_len 0 (count a)) c = (c, omega (arith, many, low), get_or-range_with_len 0 (count a) c c low ∙ whole) in
      let there = kept (λ n. not (is_set copied.bytes n)) (missing_chunks a m) c (kept (is_missing a m) (range_with_len 0 (count a)) c number missing) (ap not clear) in
      list_any_at (λ chunk. chunk == c) chunks there.0 c there.1 (eq-eqb (get_or chunks there.0 c) c there.2)

module _ (target : ℕ) (v : MirrorView) (ready : IsReadyToCopy target v) (within : target < length v.array.members) (copied : Bitmap) (held : AreHeld v target copied) (m : MemberView) (at : IsMember v.array target m) where
  abbrev a : ArrayView
  a = v.array

  abbrev chunks : List ℕ
  chunks = uncopied_chunks a m copied

  low_then : (c : ℕ) → c < a.marks.chunks → c < count a
  low_then c low = (let many = ready.sound.chunks.count in omega (arith, low, many))

  module _ (kept_set orphans : Bitmap) (kept_chunks : kept_set.chunks ≡ copied.chunks)
      (kept_are : (c : ℕ) → c < copied.chunks → is_set kept_set.bytes c ≡ (is_missing a m c && is_set copied.bytes c)) (orphan_chunks : orphans.chunks ≡ a.marks.chunks)
      (orphans_are : (c : ℕ) → is_set orphans.bytes c ≡ is_in chunks c) where
    low_copied : (c : ℕ) → c < a.marks.chunks → c < copied.chunks
    low_copied c low = subst (λ n. c < n) (sym held.chunks) low

    kept_parts : (c : ℕ) → c < a.marks.chunks → is_set kept_set.bytes c ≡ true → (is_missing a m c ≡ true) × (is_set copied.bytes c ≡ true)
    kept_parts c low set = and_parts (is_missing a m c) (is_set copied.bytes c) (sym (kept_are c (low_copied c low)) ∙ set)

    pub may : MayEnrol target kept_set orphans v
    may = record {
      member = m;
      at = at;
      recovering = ready.recovering m at;
      resynced = ready.goes.resynced;
      idle = ready.goes.idle.none;
      copied_chunks = kept_chunks ∙ held.chunks;
      orphan_chunks = orphan_chunks;
      disjoint = λ c low set. elim (cases_Bool (is_set orphans.bytes c)) [
        | inl also ↦ absurd (both_ways (is_set copied.bytes c) (uncopied_is a m copied c (sym (orphans_are c) ∙ also)).1 (kept_parts c low set).1)
        | inr none ↦ none
      ];
      cover = λ c low missing. elim (cases_Bool (is_set copied.bytes c)) [
        | inl set ↦ inl (kept_are c (low_copied c low) ∙ ap (λ b. b && is_set copied.bytes c) missing ∙ set)
        | inr clear ↦ inr (orphans_are c ∙ is_uncopied a m copied c (low_then c low) missing clear)
      ];
      only = λ c low either. elim either [
        | inl set ↦ (kept_parts c low set).0
        | inr set ↦ (uncopied_is a m copied c (sym (orphans_are c) ∙ set)).0.missing
      ];
      holds = holds_of target v ready.sound ready.goes.idle.running kept_set (kept_chunks ∙ held.chunks) (λ c low set. held.held c low (kept_parts c low set).1);
    }

    pub has_sets : HasSets target copied kept_set orphans chunks v
    unfolding may
    has_sets = record {
      may = may;
      sets = record {
        kept_are = λ c low. kept_are c (low_copied c low);
        orphans_are = record { chunks = orphan_chunks; bits = orphans_are };
        chunks_are = refl;
      };
    }

    -- they are held, too
    pub kept_held : AreHeld v target kept_set
    kept_held = record {
      chunks = kept_chunks ∙ held.chunks;
      held = λ c low set. held.held c low (kept_parts c low set).1;
      unlisted = λ n there c low set has lists. held.unlisted n there c low (kept_parts c low set).1 has lists;
    }

    -- ---- what comes of it
    pub enrols_copied : (w : MirrorView) (told : Rebuilt) (plans : List Planned) → EnrolsChunks target kept_set orphans v w → told.orphans.items ≡ chunks → told.passes ≡ length plans → told.plans.items ≡ plans
        → EnrolsCopied target plans copied v w told
    enrols_copied w told plans enrols chunks_is passes_is plans_is = record {
      kept = kept_set;
      orphans = orphans;
      has = subst (λ xs. HasSets target copied kept_set orphans xs v) (sym chunks_is) has_sets;
      enrols = enrols;
      passes_are = passes_is;
      plans_are = plans_is;
    }

    pub fails_copied : (w : MirrorView) (fault : RebuildFault) → RefusesFilledTarget target kept_set orphans v w fault → FailsCopied target copied kept_set v w fault
    fails_copied w (LogFull k) h =
        (h.0, record { kept = kept_set; orphans = orphans; chunks = chunks; has = has_sets; why = record { unchanged = h.1.unchanged; full = h.1.full; left = λ c low set. set } })
    fails_copied w NoMemory h = record { kept = kept_set; orphans = orphans; chunks = chunks; has = has_sets; why = record { unchanged = h.0; room = h.1; left = λ c low set. set } }
    fails_copied w TargetFault h = record { kept = kept_set; orphans = orphans; chunks = chunks; has = has_sets; why = h }
    fails_copied w Halted h = absurd h
    fails_copied w NotSpare h = absurd h
    fails_copied w Dirty h = absurd h
    fails_copied w (InFlight n) h = absurd h
    fails_copied w (MetadataFault k) h = absurd h
    fails_copied w EventsFull h = absurd h

    pub leaves_copied : (w : MirrorView) (fault : RebuildFault) → RefusesFilledTarget target kept_set orphans v w fault → MayRecordAtEnd target kept_set w fault
    leaves_copied w (LogFull k) h = subst (λ (x : MirrorView). MayRecordAtEnd target kept_set x (LogFull k)) (sym h.1.unchanged) (recordable target v ready, kept_held)
    leaves_copied w NoMemory h = subst (λ (x : MirrorView). MayRecordAtEnd target kept_set x NoMemory) (sym h.0) (recordable target v ready, kept_held)
    leaves_copied w TargetFault h = tt
    leaves_copied w Halted h = absurd h
    leaves_copied w NotSpare h = absurd h
    leaves_copied w Dirty h = absurd h
    leaves_copied w (InFlight n) h = absurd h
    leaves_copied w (MetadataFault k) h = absurd h
    leaves_copied w EventsFull h = absurd h
