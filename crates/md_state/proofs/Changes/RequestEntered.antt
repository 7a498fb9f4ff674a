-- A request is entered: what becomes of the array step by step.
use Rattle.std.proofs.Common.{◌≡◌, ◌∙◌, ℕ, ◌+◌, ◌^◌, ◌==◌, Bool, true, false, cond, not, List, [], ◌∷◌, ◌++◌, refl, sym, ap, inl, inr}
use Rattle.std.proofs.lemmas.Bool.{cond-false, cond-true, eq-eqb, ne_eqb}
use Rattle.std.proofs.lemmas.Bool.Decides.{eqb_tells}
use Rattle.md_bitmap.specs.Marks.{Bitmap}
use Rattle.md_inflight.specs.Inflight.{InflightList}
use Rattle.md_super.specs.Profile.{IsProfile}
use Rattle.md_super.specs.declared.superblock.Superblock.{Superblock}
use Rattle.md_inflight.specs.declared.requests.extent.Extent.{Extent}
use Rattle.md_faults.specs.declared.step_fault.BeginFault.{BeginFault}
use Rattle.md_faults.specs.declared.step_fault.BeginFault.TheVariants.{NoMemory, NumbersSpent}
use Rattle.md_state.specs.View.{ArrayView, Disk}
use Rattle.md_state.specs.Members.{clean_offset, is_degraded}
use Rattle.md_state.specs.Steps.Rise.{risen}
use Rattle.md_state.specs.Steps.Begin.{HasMarked, IsInRange, MayBeginAt, RefusesBegin, active_offset, array_after_rise, first_sector, has_to_rise, with_offsets_lowered, with_request}
use Rattle.md_kept_members.proofs.MembershipLemmas.Profiles.{same_profile}

-- the list with a request of these sectors
abbrev pub entered : InflightList Extent → ℕ → ℕ → InflightList Extent
entered list sector sectors = record list { entries = list.entries ++ (list.next, record { start = sector; sectors = sectors }) ∷ []; next = list.next + 1 }

-- the array with the request, whose count rose or not
abbrev counted : ArrayView → ℕ → ℕ → Bool → ArrayView
counted a sector sectors rises = cond rises (risen (record a { requests = entered a.requests sector sectors }) (not (is_degraded a))) (record a { requests = entered a.requests sector sectors })

-- the array, clean no more
abbrev pub activated : ArrayView → ArrayView
activated a = record a { shared = record a.shared { resync_offset = active_offset a.shared.resync_offset } }

pub was_clean : (b a : ArrayView) (p : IsProfile b.shared.feature_map b.shared.level b.shared.raid_disks b.shared.super_offset) → b ≡ a → b.shared.resync_offset ≡ clean_offset
    → record b { shared = record b.shared { resync_offset = 0; in_profile = p } } ≡ activated a
was_clean b a p is clean =
    let e : active_offset b.shared.resync_offset ≡ 0 = cond-true _ _ _ (eq-eqb _ _ clean) in
    ap (λ (v : Superblock). record b { shared = v }) (same_profile (record b.shared { resync_offset = 0 }) p)
    ∙ ap (λ (o : ℕ). record b { shared = record b.shared { resync_offset = o } }) (sym e)
    ∙ ap activated is

pub was_active : (a : ArrayView) → (a.shared.resync_offset ≡ clean_offset → ⊥) → a ≡ activated a
was_active a active =
    let e : active_offset a.shared.resync_offset ≡ a.shared.resync_offset = cond-false _ _ _ (ne_eqb _ _ active) in
    ap (λ (o : ℕ). record a { shared = record a.shared { resync_offset = o } }) (sym e)

-- no number or no memory
pub refused : (a b : ArrayView) (sector sectors : ℕ) (fault : BeginFault) (disks : List Disk) → b ≡ a → MayBeginAt a sector sectors → fault ≡ cond (a.requests.next == 2 ^ 64) NumbersSpent NoMemory
    → RefusesBegin sector sectors (record { disks = disks; array = a }) (record { disks = disks; array = b }) fault
refused a b sector sectors fault disks same may why = elim (eqb_tells a.requests.next (2 ^ 64)) [
  | inl spent ↦
      let is : fault ≡ NumbersSpent = why ∙ cond-true _ _ _ spent.0 in
      rw is (record { unchanged = ap (λ (x : ArrayView). record { disks = disks; array = x }) same; reason = record { may = may; spent = spent.1 } })
  | inr left ↦
      let is : fault ≡ NoMemory = why ∙ cond-false _ _ _ left.0 in
      rw is (record { unchanged = ap (λ (x : ArrayView). record { disks = disks; array = x }) same; reason = record { may = may; unspent = left.1 } })
]

module _ (a e : ArrayView) (sector sectors : ℕ) (entered_is : e ≡ record a { requests = entered a.requests sector sectors }) where
  pub still_rises : has_to_rise e ≡ true → has_to_rise a ≡ true
  still_rises rises = rw entered_is at rises

  module _ (c l d : ArrayView) (counted_is : c ≡ array_after_rise e) (lowered_is : l ≡ with_offsets_lowered (first_sector c sector) c) (active_is : d ≡ activated l) where
    same_chunks : d.chunks ≡ a.chunks
    same_chunks = rw (active_is, lowered_is, counted_is, entered_is) (by (has_to_rise a))
      where
        by : (rises : Bool) → (counted a sector sectors rises).chunks ≡ a.chunks
        by true = refl
        by false = refl

    same_marks : d.marks ≡ a.marks
    same_marks = rw (active_is, lowered_is, counted_is, entered_is) (by (has_to_rise a))
      where
        by : (rises : Bool) → (counted a sector sectors rises).marks ≡ a.marks
        by true = refl
        by false = refl

    pub still_in_range : IsInRange a sector sectors → IsInRange d sector sectors
    still_in_range range = record { some = range.some; inside = rw same_chunks range.inside }

    pub still_marked : (marks : Bitmap) → HasMarked d sector sectors marks → HasMarked a sector sectors marks
    still_marked marks has = record { chunks = rw (← same_marks) has.chunks; bits = λ k. rw (← same_marks, ← same_chunks) (has.bits k) }

    pub with_request_is : (b : ArrayView) (marks : Bitmap) → b ≡ record d { marks = marks }
        → b ≡ with_request (with_offsets_lowered (first_sector a sector) (array_after_rise a)) sector sectors marks
    with_request_is b marks marked_is = rw (marked_is, active_is, lowered_is, counted_is, entered_is) (by (has_to_rise a))
      where
        by : (rises : Bool) → record (activated (with_offsets_lowered (first_sector (counted a sector sectors rises) sector) (counted a sector sectors rises))) { marks = marks }
            ≡ with_request (with_offsets_lowered (first_sector a sector) (cond rises (risen a (not (is_degraded a))) a)) sector sectors marks
        by true = refl
        by false = refl
