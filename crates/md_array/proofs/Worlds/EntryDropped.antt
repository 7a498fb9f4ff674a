-- The entry of a member without a role becomes that of a failed device: the array stays consistent, and its world's entry does too.
use Rattle.std.proofs.Common.{◌≡◌, ℕ, false, cond, ◌&&◌, eqb, nat_lt, true≢false, List, length, slice_get, Option, Some, None, option_map, unwrap_or, refl, sym, ap, ◌∙◌}
use Rattle.std.proofs.lemmas.Option.{same_Some}
use Rattle.md_model.specs.Worlds as worlds
use Rattle.md_model.specs.Membership as membership
use Rattle.md_assembly.specs.States.{role_in, takes_role}
use Rattle.md_kept_members.specs.View.{MemberView}
use Rattle.md_state.specs.InMemory.{HasMarksOfSize, HasRoles}
use Rattle.md_state.specs.Members.{IsMember}
use Rattle.md_state.specs.Steps.Remove.{without_entry}
use Rattle.md_state.specs.View.{ArrayView, Disk}
use Rattle.md_array.specs.Consistency.{IsConsistent}
use Rattle.md_array.specs.Fits.{Fits}
use Rattle.md_array.specs.Worlds.{stored_on, world_on}
use Rattle.md_array.proofs.Worlds.Without.{length_without, role_kept, role_without}

stored_dropped : (a : ArrayView) (m : MemberView) (o : Option MemberView) (d : Option Disk) → stored_on (without_entry a m) o d ≡ stored_on a o d
stored_dropped a m None None = refl
stored_dropped a m None (Some d) = refl
stored_dropped a m (Some x) None = refl
stored_dropped a m (Some x) (Some d) = refl

module _ (a : ArrayView) (k : ℕ) (m : MemberView) (at : IsMember a k m) where
  abbrev b : ArrayView
  b = without_entry a m

  module _ (none : (role : ℕ) → takes_role role m.state ≡ false) where
    roles_dropped : HasRoles a → HasRoles b
    roles_dropped r = record {
      few = r.few;
      numbers = r.numbers;
      shared = λ j role x is e.
          role_kept m a.shared.roles x.superblock.dev_number (λ same.
          let here = r.numbers j k x m is at same in
          let one : x ≡ m = same_Some x m (sym is ∙ ap (slice_get a.members) here ∙ at) in
          true≢false (sym e ∙ ap (λ (y : MemberView). takes_role role y.state) one ∙ none role))
          ∙ r.shared j role x is e;
      below = r.below;
      one_each = r.one_each;
      serving = λ running. let s = r.serving running in (s.0, s.1, record { member = s.2.member; in_sync = s.2.in_sync });
    }

    chunks_dropped : HasMarksOfSize a → HasMarksOfSize b
    chunks_dropped h = record {
      size = h.size;
      count = h.count;
      wide = h.wide;
      none_past = h.none_past;
      member_size = h.member_size;
      member_width = h.member_width;
      member_count = h.member_count;
    }

    fits_dropped : (disks : List Disk) → Fits disks a → Fits disks b
    fits_dropped disks f = record {
      as_many = f.as_many;
      each = λ j d x there is. let fit = f.each j d x there is in record { long = fit.long; short = fit.short; has = fit.has; placed = fit.placed; few_chunks = fit.few_chunks; sound = fit.sound; told = fit.told };
    }

    pub dropped_is_consistent : (disks : List Disk) → IsConsistent (record { disks = disks; array = a }) → IsConsistent (record { disks = disks; array = b })
    dropped_is_consistent disks c = record {
      fits = fits_dropped disks c.fits;
      roles = roles_dropped c.roles;
      chunks = chunks_dropped c.chunks;
      inside = c.inside;
      supers = c.supers;
    }

  pub world_dropped : (disks : List Disk) (requests : ℕ → Option worlds.Request) → world_on disks b requests ≡ membership.without_entry (world_on disks a requests) k
  world_dropped disks requests = λ i. record (world_on disks a requests) {
    stored = λ j. stored_dropped a m (slice_get a.members j) (slice_get disks j) i;
    role = λ d. (role_without m a.shared.roles d ∙ ap (λ n. cond (eqb d n && nat_lt d (length a.shared.roles)) 65534 (role_in a.shared d)) (sym number_here)) i;
    entries = length_without m a.shared.roles i;
  }
    where
      number_here : (world_on disks a requests).number k ≡ m.superblock.dev_number
      number_here = ap (λ o. unwrap_or (option_map (λ (x : MemberView). x.superblock.dev_number) o) 0) at
