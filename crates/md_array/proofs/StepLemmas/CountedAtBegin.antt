-- A request makes the count rise, or not: what it asks, and what stays the same.
use Rattle.std.proofs.Common.{◌≡◌, ℕ, ◌<◌, ◌↔◌, inl, inr, Bool, true, false, cond, not, ◌||◌, ◌==◌, nat_lt, List, length, Option, refl, ap, ◌∙◌, arith}
use Rattle.std.specs.List.{list_any, range_with_len}
use Rattle.std.proofs.lemmas.Bool.{cases_lt, and_from, not-true, and_parts}
use Rattle.std.proofs.Math.Bool.{or-true}
use Rattle.md_model.specs.Worlds as worlds
use Rattle.md_model.specs.Counts as counts
use Rattle.md_model.proofs.Cases.{below-nat_lt, is_below, never}
use Rattle.md_bitmap.specs.Marks.{Bitmap}
use Rattle.md_assembly.specs.States.{role_in}
use Rattle.md_inflight.specs.Requests.Pending.{PendingView}
use Rattle.md_kept_members.specs.Members.{made_due}
use Rattle.md_kept_members.specs.Membership.Numbers.{has_number, is_absent}
use Rattle.md_state.specs.View.{Disk, ArrayView, geometry_of}
use Rattle.md_state.specs.Steps.Rise.{risen}
use Rattle.md_state.specs.Members.{clean_offset}
use Rattle.md_state.specs.Steps.Begin.{HasMarked, IsInRange, has_to_rise}
use Rattle.md_state.specs.Requests.{IsPending, lacks}
use Rattle.md_array.specs.Consistency.{IsConsistent}
use Rattle.md_array.specs.Worlds.{world_on}
use Rattle.md_array.proofs.General.Indices.{any_at, at_any, count_map, got_in_range}
use Rattle.md_array.proofs.Worlds.Risen.{past_is_high, risen_is_consistent, world_risen}
use Rattle.md_array.proofs.General.Tests.{one_is}

module _ (a : ArrayView) (full : Bool) where
  abbrev pub counted_if : Bool → ArrayView
  counted_if rises = cond rises (risen a full) a

  -- what a rise leaves
  pub same_if : {X : Type 0} (of : ArrayView → X) → of (risen a full) ≡ of a → (rises : Bool) → of (counted_if rises) ≡ of a
  same_if of same true = same
  same_if of same false = refl

  pub world_counted : (disks : List Disk) (requests : ℕ → Option worlds.Request) (rises : Bool)
      → world_on disks (counted_if rises) requests ≡ counts.risen_if (geometry_of a) (world_on disks a requests) rises full
  world_counted disks requests true = world_risen a full disks requests
  world_counted disks requests false = refl

  pub counted_is_consistent : (disks : List Disk) (rises : Bool) → IsConsistent (record { disks = disks; array = a }) → IsConsistent (record { disks = disks; array = counted_if rises })
  counted_is_consistent disks true c = risen_is_consistent (record { disks = disks; array = a }) full c
  counted_is_consistent disks false c = c

  pub counted_keeps_pending : (p : PendingView) (rises : Bool) → IsPending a p → IsPending (counted_if rises) p
  counted_keeps_pending p true is = record {
    belongs = is.belongs;
    extent = is.extent;
    whole = is.whole;
    room = let same = count_map (lacks p) made_due a.members in let room = is.room in omega arith;
  }
  counted_keeps_pending p false is = is

  pub marked_counted : (sector sectors : ℕ) (marks : Bitmap) (rises : Bool) → HasMarked a sector sectors marks → HasMarked (counted_if rises) sector sectors marks
  marked_counted sector sectors marks true m = record { chunks = m.chunks; bits = m.bits }
  marked_counted sector sectors marks false m = m

  pub range_counted : (sector sectors : ℕ) (rises : Bool) → IsInRange a sector sectors → IsInRange (counted_if rises) sector sectors
  range_counted sector sectors true r = record { some = r.some; inside = r.inside }
  range_counted sector sectors false r = r

-- the array has to rise as its world has
module _ (disks : List Disk) (a : ArrayView) (requests : ℕ → Option worlds.Request) where
  abbrev w : worlds.World
  w = world_on disks a requests

  absent_there : list_any (is_absent a.shared a.members) (range_with_len 0 (length a.shared.roles)) ≡ true → counts.HasToRise (geometry_of a) w
  absent_there e =
      let x = at_any (is_absent a.shared a.members) (range_with_len 0 (length a.shared.roles)) e in
      let parts = and_parts (nat_lt (role_in a.shared x.1) a.shared.raid_disks) (not (has_number a.members x.1)) x.3 in
      inr (x.1, is_below _ _ parts.0, not-true (has_number a.members x.1) parts.1)

  absent_here : (d : ℕ) → role_in a.shared d < a.shared.raid_disks → has_number a.members d ≡ false → list_any (is_absent a.shared a.members) (range_with_len 0 (length a.shared.roles)) ≡ true
  absent_here d low away =
      let test = below-nat_lt (role_in a.shared d) a.shared.raid_disks low in
      elim (cases_lt d (length a.shared.roles)) [
        | inl within ↦ any_at (is_absent a.shared a.members) (range_with_len 0 (length a.shared.roles)) d d (got_in_range (length a.shared.roles) d within) (and_from _ _ test (ap not away))
        | inr past ↦ never _ test (past_is_high a d past)
      ]

  pub rises_as_told : (has_to_rise a ≡ true) ↔ counts.HasToRise (geometry_of a) w
  rises_as_told = (
    (λ e. elim (one_is (a.shared.resync_offset == clean_offset) _ e) [ inl clean ↦ inl clean | inr absent ↦ absent_there absent ]),
    (λ h. elim h [
      | inl clean ↦ ap (λ b. b || list_any (is_absent a.shared a.members) (range_with_len 0 (length a.shared.roles))) clean
      | inr x ↦ ap (λ b. a.shared.resync_offset == clean_offset || b) (absent_here x.0 x.1 x.2) ∙ or-true (a.shared.resync_offset == clean_offset)
    ]),
  )
