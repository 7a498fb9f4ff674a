-- Marks are cleared, where no request is in flight.
use Rattle.std.proofs.Common.{◌≡◌, ℕ, ◌+◌, ◌<◌, ◌≤◌, Bool, true, false, not, ◌&&◌, ◌==◌, nat_le, List, [], ◌∷◌, None, option_map, slice_get, refl, sym, ap, ◌∙◌, subst, arith, inl, inr}
use Rattle.std.specs.Prelude.{MatchResult, Result, Ok, Err}
use Rattle.std.proofs.lemmas.Bool.{cases_lt}
use Rattle.std.proofs.lemmas.Bool.Decides.{eqb_tells, nat_tests}
use Rattle.std.proofs.lemmas.Option.{none-some}
use Rattle.std.proofs.Math.Bool.{and-false}
use Rattle.md_model.specs.Events.{Event}
use Rattle.md_bitmap.specs.Marks.{is_set}
use Rattle.md_inflight.specs.declared.requests.extent.Extent.{Extent}
use Rattle.md_inflight.specs.Requests.Pending.{PendingView}
use Rattle.md_faults.specs.declared.step_fault.ClearFault.{ClearFault}
use Rattle.md_faults.specs.declared.step_fault.ClearFault.TheVariants.{Halted, NotResynced, Degraded, Busy, NotMarked}
use Rattle.md_state.specs.View.{ArrayView, MirrorView}
use Rattle.md_state.specs.Steps.ClearIdle.{Clears, RefusesClear, first_touching}
use Rattle.md_state.specs.Steps.MakeClean.{first_number}
use Rattle.md_state.specs.Requests.{IsPending}
use Rattle.md_array.specs.Consistency.{IsConsistent}
use Rattle.md_array.specs.Events.{ClearHappens}
use Rattle.md_metadata.specs.Clearing.{ClearsAll, ClearsMark, IsClearing, MayClearAll, ChangesMarksAlone}
use Rattle.md_metadata.proofs.Leading.{leads_nowhere, leads_once, leads_then}

-- where no request is the first, there is none
none_first : (entries : List (ℕ × Extent)) → option_map (λ entry. entry.0) (slice_get entries 0) ≡ None → entries ≡ []
none_first [] none = refl
none_first (entry ∷ entries) none = absurd (none-some entry.0 (sym none))

none_touching : (a : ArrayView) (chunk : ℕ) → first_number a ≡ None → first_touching a chunk ≡ None
none_touching a chunk none =
    subst (λ (entries : List (ℕ × Extent)). first_touching (record a { requests = record a.requests { entries = entries } }) chunk ≡ None) (sym (none_first a.requests.entries none)) refl

module _ (chunk : ℕ) (old new : MirrorView) where
  -- nothing refuses it
  clear_refused : {P : Type 0} (fault : ClearFault) → MayClearAll old.array → is_set old.array.marks.bytes chunk ≡ true → RefusesClear chunk old new fault → P
  clear_refused Halted may marked r = absurd (let yes = r.reason in let no = may.idle.running in cc)
  clear_refused NotResynced may marked r = absurd (let yes = r.reason.not_yet in let no = may.resynced in cc)
  clear_refused Degraded may marked r = absurd (let yes = r.reason.degraded in let no = may.full in cc)
  clear_refused (Busy n) may marked r = absurd (none-some n (sym (none_touching old.array chunk may.idle.none) ∙ r.reason.busy))
  clear_refused NotMarked may marked r = absurd (let no = r.reason.unmarked in cc)

  pub mark_cleared : MayClearAll old.array → is_set old.array.marks.bytes chunk ≡ true → {T : Type 0} (result : Result T ClearFault)
      → MatchResult result (λ _. Clears chunk old new) (RefusesClear chunk old new)
      → ClearHappens chunk old new result → IsConsistent new → ((o : PendingView) → IsPending old.array o → IsPending new.array o) → ClearsMark chunk old new
  mark_cleared may marked (Ok t) c happens sound pending = record {
    marks_alone = record {
      goes = leads_once IsClearing (Event.ClearIdle chunk) old new tt (λ previous. tt) (λ others. (refl, c)) (λ honest whole others in_flight. happens honest others in_flight)
          (ap (λ (x : ArrayView). x.requests) c.array) sound pending;
      disks = c.disks;
      chunks = c.left.chunks;
      array = c.array;
    };
    bits = c.left.bits;
  }
  mark_cleared may marked (Err fault) r happens sound pending = clear_refused fault may marked r

no_marks_changed : (m : MirrorView) → IsConsistent m → ChangesMarksAlone m m
no_marks_changed m sound = record { goes = leads_nowhere IsClearing m sound; disks = refl; chunks = refl; array = refl }

-- there was no mark
pub unmarked_already : (chunk : ℕ) (m : MirrorView) → IsConsistent m → is_set m.array.marks.bytes chunk ≡ false → ClearsMark chunk m m
unmarked_already chunk m sound none = record {
  marks_alone = no_marks_changed m sound;
  bits = λ c. elim (eqb_tells c chunk) [
    | inl same ↦ ap (is_set m.array.marks.bytes) same.1 ∙ none ∙ sym (ap (λ b. not b && is_set m.array.marks.bytes c) same.0)
    | inr other ↦ sym (ap (λ b. not b && is_set m.array.marks.bytes c) other.0)
  ];
}

-- ---- one after another
-- the chunks before this one have none
pub record ClearsTo (n : ℕ) (old new : MirrorView) : Type 0 where
  pub marks_alone : ChangesMarksAlone old new
  pub bits : (c : ℕ) → is_set new.array.marks.bytes c ≡ (nat_le n c && is_set old.array.marks.bytes c)

pub still_may : (old new : MirrorView) → ChangesMarksAlone old new → MayClearAll old.array → MayClearAll new.array
still_may old new r may = subst MayClearAll (sym r.array)
    (record { idle = record { running = may.idle.running; none = may.idle.none }; resynced = may.resynced; full = may.full })

pub to_none : (m : MirrorView) → IsConsistent m → ClearsTo 0 m m
to_none m sound = record { marks_alone = no_marks_changed m sound; bits = λ c. from_first c (is_set m.array.marks.bytes c) }
  where
    from_first : (c : ℕ) (x : Bool) → x ≡ (nat_le 0 c && x)
    from_first c x = grind (arith, nat_tests)

one_more : (n c : ℕ) (x : Bool) → (not (c == n) && (nat_le n c && x)) ≡ (nat_le (n + 1) c && x)
one_more n c x = grind (arith, nat_tests)

pub to_more : (n : ℕ) (old mid new : MirrorView) → ClearsTo n old mid → ClearsMark n mid new → ClearsTo (n + 1) old new
to_more n old mid new g h = record {
  marks_alone = record {
    goes = leads_then IsClearing old mid new g.marks_alone.goes h.marks_alone.goes;
    disks = h.marks_alone.disks ∙ g.marks_alone.disks;
    chunks = h.marks_alone.chunks ∙ g.marks_alone.chunks;
    array = h.marks_alone.array ∙ ap (λ (x : ArrayView). record x { marks = new.array.marks }) g.marks_alone.array;
  };
  bits = λ c. h.bits c ∙ ap (λ b. not (c == n) && b) (g.bits c) ∙ one_more n c (is_set old.array.marks.bytes c);
}

pub to_all : (n : ℕ) (old new : MirrorView) → IsConsistent old → old.array.marks.chunks ≤ n → ClearsTo n old new → ClearsAll old new
to_all n old new sound past g = record {
  marks_alone = g.marks_alone;
  none = λ c. g.bits c ∙ elim (cases_lt c n) [
    | inl low ↦ before n c (is_set old.array.marks.bytes c) low
    | inr high ↦ ap (λ b. nat_le n c && b) (sound.chunks.none_past c (omega arith)) ∙ and-false (nat_le n c)
  ];
}
  where
    before : (n c : ℕ) (x : Bool) → c < n → (nat_le n c && x) ≡ false
    before n c x low = grind (arith, nat_tests)
