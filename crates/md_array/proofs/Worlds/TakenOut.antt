-- A member that is not in sync is taken out of an array, with its device: the array stays consistent, and it is taken out of the world.
use Rattle.std.proofs.Common.{◌≡◌, ◌≢◌, ℕ, ◌+◌, ◌-◌, ◌<◌, Bool, false, ◌&&◌, not, eqb, nat_lt, true≢false, List, length, slice_get, Option, Some, None, option_map, unwrap_or, refl, sym, ap, ◌∙◌, arith}
use Rattle.std.specs.List.{list_any, range_with_len, remove}
use Rattle.std.proofs.lemmas.List.Edits.{length-remove}
use Rattle.std.proofs.lemmas.Option.{same_Some}
use Rattle.md_bitmap.specs.Marks.{is_set}
use Rattle.md_model.specs.States as model
use Rattle.md_model.specs.Worlds as worlds
use Rattle.md_model.specs.Membership as membership
use Rattle.md_model.specs.Membership.{skip}
use Rattle.md_model.proofs.Steps.Membership.{skip-injective, skip-onto}
use Rattle.md_assembly.specs.declared.state.MemberState.{MemberState}
use Rattle.md_assembly.specs.declared.state.MemberState.TheVariants.{InSync, Recovering, Stale, Spare, Faulty}
use Rattle.md_assembly.specs.States.{has_recovery_offset, is_in_sync, is_in_sync_as}
use Rattle.md_kept_members.specs.View.{MemberView}
use Rattle.md_state.specs.InMemory.{HasMarksOfSize, HasRoles}
use Rattle.md_state.specs.Members.{IsMember, is_degraded, is_filled}
use Rattle.md_state.specs.View.{ArrayView, Disk}
use Rattle.md_state.specs.Steps.Remove.{taken_out}
use Rattle.md_array.specs.Consistency.{IsConsistent}
use Rattle.md_array.specs.Fits.{Fits}
use Rattle.md_array.specs.ReadAsKept.{AreReadAsKept}
use Rattle.md_array.specs.Worlds.{kind_of, stored_on, world_on, lists_of}
use Rattle.md_array.proofs.General.TakenOut.{any_left, got_left, number_left, was_at}

not_in_sync_as : (s : MemberState) (role : ℕ) → is_in_sync s ≡ false → is_in_sync_as role s ≡ false
not_in_sync_as (InSync own) role e = absurd cc
not_in_sync_as (Recovering own) role e = refl
not_in_sync_as (Stale own) role e = refl
not_in_sync_as Spare role e = refl
not_in_sync_as Faulty role e = refl

stored_left : (a : ArrayView) (k : ℕ) (o : Option MemberView) (d : Option Disk) → stored_on (taken_out a k) o d ≡ stored_on a o d
stored_left a k None None = refl
stored_left a k None (Some d) = refl
stored_left a k (Some x) None = refl
stored_left a k (Some x) (Some d) = refl

module _ (a : ArrayView) (k : ℕ) (m : MemberView) (at : IsMember a k m) (low : k < length a.members) (out : is_in_sync m.state ≡ false) where
  abbrev b : ArrayView
  b = taken_out a k

  was : (j : ℕ) (x : MemberView) → IsMember b j x → IsMember a (skip k j) x
  was j x = was_at a.members k j x

  one_less : length b.members + 1 ≡ length a.members
  one_less = length-remove a.members k low

  roles_left : HasRoles a → HasRoles b
  roles_left r = record {
    few = let few = r.few in let less = one_less in omega arith;
    numbers = λ i j x y p q same. skip-injective k i j (r.numbers (skip k i) (skip k j) x y (was i x p) (was j y q) same);
    shared = λ j role x is e. r.shared (skip k j) role x (was j x is) e;
    below = λ j role x is e. r.below (skip k j) role x (was j x is) e;
    one_each = λ i j role x y p q e f. skip-injective k i j (r.one_each (skip k i) (skip k j) role x y (was i x p) (was j y q) e f);
    serving = λ running.
        let s = r.serving running in
        let apart : s.0 ≢ k = λ here.
        let same : s.1 ≡ m = same_Some s.1 m (sym s.2.member ∙ ap (slice_get a.members) here ∙ at) in
        true≢false (sym s.2.in_sync ∙ ap (λ (x : MemberView). is_in_sync x.state) same ∙ out) in
        let i = skip-onto k s.0 apart in
        (i.0, s.1, record { member = got_left a.members k i.0 ∙ ap (slice_get a.members) i.1 ∙ s.2.member; in_sync = s.2.in_sync });
  }

  chunks_left : HasMarksOfSize a → HasMarksOfSize b
  chunks_left h = record {
    size = h.size;
    count = h.count;
    wide = h.wide;
    none_past = h.none_past;
    member_size = λ j x is. h.member_size (skip k j) x (was j x is);
    member_width = λ j x is. h.member_width (skip k j) x (was j x is);
    member_count = λ j x is. h.member_count (skip k j) x (was j x is);
  }

  module _ (disks : List Disk) where
    fits_left : Fits disks a → Fits (remove disks k) b
    fits_left f = record {
      as_many =
          let many = f.as_many in
          let less = one_less in
          let fewer = length-remove disks k (omega arith) in
          omega arith;
      each = λ j d x there is.
          let fit = f.each (skip k j) d x (was_at disks k j d there) (was j x is) in
          record { long = fit.long; short = fit.short; has = fit.has; placed = fit.placed; few_chunks = fit.few_chunks; sound = fit.sound; told = fit.told };
    }

    pub left_is_consistent : IsConsistent (record { disks = disks; array = a }) → IsConsistent (record { disks = remove disks k; array = b })
    left_is_consistent c = record {
      fits = fits_left c.fits;
      roles = roles_left c.roles;
      chunks = chunks_left c.chunks;
      inside = c.inside;
      supers = λ running j d x there is. c.supers running (skip k j) d x (was_at disks k j d there) (was j x is);
    }

    pub read_left : (failed_at : ℕ) (spoiled : ℕ → Bool) → AreReadAsKept (record { disks = disks; array = a }) failed_at spoiled
        → AreReadAsKept (record { disks = remove disks k; array = b }) failed_at (λ j. spoiled (skip k j))
    read_left failed_at spoiled are j d x there is =
        let read = are (skip k j) d x (was_at disks k j d there) (was j x is) in
        record { super = read.super; header = read.header }

    pub world_left : (requests : ℕ → Option worlds.Request) → HasRoles a
        → world_on (remove disks k) b requests ≡ membership.taken_out (world_on disks a requests) k
    world_left requests r = λ i. record (world_on disks a requests) {
      members = fewer i;
      stored = λ j. (stored_left a k (slice_get b.members j) (slice_get (remove disks k) j) ∙ both j) i;
      number = λ j. ap (λ o. unwrap_or (option_map (λ (x : MemberView). x.superblock.dev_number) o) 0) (got_left a.members k j) i;
      state = λ j. ap (λ o. unwrap_or (option_map (λ (x : MemberView). kind_of x.state) o) model.State.Faulty) (got_left a.members k j) i;
      due = λ j. ap (λ o. unwrap_or (option_map (λ (x : MemberView). x.due) o) false) (got_left a.members k j) i;
      known = λ j c. ap (λ o. unwrap_or (option_map (λ (x : MemberView). nat_lt c a.marks.chunks && is_set x.stored.bytes c) o) false) (got_left a.members k j) i;
      bad = λ j s. ap (λ o. unwrap_or (option_map (λ (x : MemberView). lists_of a x s) o) false) (got_left a.members k j) i;
      offset = λ j. ap (λ o. unwrap_or (option_map (λ (x : MemberView). x.offset) o) 0) (got_left a.members k j) i;
      sure_offset = λ j. ap (λ o. unwrap_or (option_map (λ (x : MemberView). x.superblock.recovery_offset) o) 0) (got_left a.members k j) i;
      stored_offset = λ j. ap (λ o. unwrap_or (option_map (λ (x : MemberView). x.stored_offset) o) 0) (got_left a.members k j) i;
      recovering = λ j. ap (λ o. unwrap_or (option_map (λ (x : MemberView). has_recovery_offset x.superblock) o) false) (got_left a.members k j) i;
      present = λ d. (number_left (λ (x : MemberView). x.superblock.dev_number) a.members k m at r.numbers d
          ∙ ap (λ n. list_any (λ (x : MemberView). eqb x.superblock.dev_number d) a.members && not (eqb d n)) (sym number_here)) i;
    }
      where
        fewer : length b.members ≡ length a.members - 1
        fewer = let less = one_less in omega arith

        both : (j : ℕ) → stored_on a (slice_get b.members j) (slice_get (remove disks k) j) ≡ stored_on a (slice_get a.members (skip k j)) (slice_get disks (skip k j))
        both j = ap (λ o. stored_on a o (slice_get (remove disks k) j)) (got_left a.members k j) ∙ ap (stored_on a (slice_get a.members (skip k j))) (got_left disks k j)

        number_here : (world_on disks a requests).number k ≡ m.superblock.dev_number
        number_here = ap (λ o. unwrap_or (option_map (λ (x : MemberView). x.superblock.dev_number) o) 0) at

  pub degraded_left : is_degraded b ≡ is_degraded a
  degraded_left = ap (λ (f : ℕ → Bool). list_any (λ role. not (f role)) (range_with_len 0 a.shared.raid_disks)) (λ i role. filled role i)
    where
      filled : (role : ℕ) → is_filled b role ≡ is_filled a role
      filled role = any_left (λ (x : MemberView). is_in_sync_as role x.state) a.members k m at (not_in_sync_as m.state role out)
