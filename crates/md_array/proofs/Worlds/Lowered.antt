-- Each recovering member surely has no more than what is before a sector, from which on data are about to change: the array stays
-- consistent, an opening reads what is kept, and its world is lowered.
use Rattle.std.proofs.Common.{◌≡◌, ℕ, ◌+◌, ◌/◌, Bool, false, cond, not, ◌&&◌, ◌||◌, eqb, nat_lt, List, slice_get, Option, Some, None, option_map, unwrap_or, refl, sym, ap, ◌∙◌, subst, arith}
use Rattle.std.specs.Prelude.{min}
use Rattle.std.specs.List.{list_any, range_with_len}
use Rattle.std.proofs.lemmas.List.{length-map}
use Rattle.std.proofs.lemmas.Option.{slice_get-map}
use Rattle.md_model.specs.States as model
use Rattle.md_model.specs.Steps as steps
use Rattle.md_model.specs.Worlds as worlds
use Rattle.md_bitmap.specs.Marks.{is_set}
use Rattle.md_assembly.specs.States.{has_recovery_offset, is_in_sync, is_in_sync_as, is_recovering, role_in, takes_role}
use Rattle.md_kept_members.specs.TakingBack.{lowered_member, member_says_of}
use Rattle.md_kept_members.specs.View.{MemberView}
use Rattle.md_inflight.specs.Requests.Pending.{PendingView}
use Rattle.md_state.specs.InMemory.{HasMarksOfSize, HasRoles}
use Rattle.md_state.specs.Members.{IsMember, is_degraded, is_filled}
use Rattle.md_state.specs.Requests.{IsPending, lacks}
use Rattle.md_state.specs.Steps.Begin.{with_offsets_lowered}
use Rattle.md_state.specs.View.{ArrayView, Disk}
use Rattle.md_array.specs.Consistency.{HasSuper, IsConsistent}
use Rattle.md_array.specs.ReadAsKept.{AreReadAsKept, IsReadAsKept}
use Rattle.md_array.specs.Worlds.{kind_of, lists_of, stored_on, world_on}
use Rattle.md_array.proofs.General.Indices.{any_map, at_map, count_map, got_in_map, read_map}
use Rattle.md_array.proofs.Rebuilding.OffsetMoved.{near_kept, own_at_offset}
use Rattle.md_array.proofs.StepLemmas.OneMember.{IsNear, fits_places}
use Rattle.md_array.proofs.Worlds.Listed.{listed_at_offset, next_at_offset}
use Rattle.md_array.proofs.Worlds.States.{same_recovering}

module _ (sector : ℕ) where
  -- its sure offset
  abbrev sure_of : MemberView → ℕ
  sure_of m = cond (is_recovering m.state) (min m.superblock.recovery_offset sector) m.superblock.recovery_offset

  pub near_lowered : (m : MemberView) → IsNear m (lowered_member sector m)
  near_lowered m = near_kept m.offset (sure_of m) (member_says_of sector m || m.due) m

  pub super_lowered : (m : MemberView) (d : Disk) → HasSuper m d → HasSuper (lowered_member sector m) d
  super_lowered m d s = record {
    super = s.super;
    is = s.is;
    number = s.number;
    recovering = s.recovering;
    places = record { data_offset = s.places.data_offset; bitmap_offset = s.places.bitmap_offset; bblog_size = s.places.bblog_size; bblog_offset = s.places.bblog_offset };
    listed = λ at on. next_at_offset (sure_of m) m.superblock d.content at ∙ s.listed at (sym (listed_at_offset (sure_of m) m.superblock d.content at) ∙ on);
    known = λ at on. s.known at (sym (next_at_offset (sure_of m) m.superblock d.content at) ∙ on);
  }

module _ (a : ArrayView) (sector : ℕ) where
  abbrev b : ArrayView
  b = with_offsets_lowered sector a

  -- ---- the world
  due_mapped : (o : Option MemberView) → unwrap_or (option_map (λ m. m.due) (option_map (lowered_member sector) o)) false
      ≡ ((model.is_recovering (unwrap_or (option_map (λ m. kind_of m.state) o) model.State.Faulty) && nat_lt sector (unwrap_or (option_map (λ m. m.stored_offset) o) 0))
      || unwrap_or (option_map (λ m. m.due) o) false)
  due_mapped None = refl
  due_mapped (Some m) = ap (λ t. (t && nat_lt sector m.stored_offset) || m.due) (sym (same_recovering m.state))

  sure_mapped : (o : Option MemberView) → unwrap_or (option_map (λ m. m.superblock.recovery_offset) (option_map (lowered_member sector) o)) 0
      ≡ cond (model.is_recovering (unwrap_or (option_map (λ m. kind_of m.state) o) model.State.Faulty))
      (min (unwrap_or (option_map (λ m. m.superblock.recovery_offset) o) 0) sector) (unwrap_or (option_map (λ m. m.superblock.recovery_offset) o) 0)
  sure_mapped None = refl
  sure_mapped (Some m) = ap (λ t. cond t (min m.superblock.recovery_offset sector) m.superblock.recovery_offset) (sym (same_recovering m.state))

  stored_lowered : (o : Option MemberView) (d : Option Disk) → stored_on b (option_map (lowered_member sector) o) d ≡ stored_on a o d
  stored_lowered None d = refl
  stored_lowered (Some m) None = refl
  stored_lowered (Some m) (Some d) =
      λ i. record (stored_on a (Some m) (Some d)) { listed = λ s. nat_lt s a.chunks.size && listed_at_offset (sure_of sector m) m.superblock d.content (m.superblock.data_offset + s) i }

  pub world_lowered : (disks : List Disk) (requests : ℕ → Option worlds.Request) → world_on disks b requests ≡ steps.lowered (world_on disks a requests) sector
  world_lowered disks requests = λ i. record (world_on disks a requests) {
    members = length-map a.members (lowered_member sector) i;
    stored = λ k. (ap (λ o. stored_on b o (slice_get disks k)) (slice_get-map (lowered_member sector) a.members k) ∙ stored_lowered (slice_get a.members k) (slice_get disks k)) i;
    number = λ k. read_map (lowered_member sector) 0 (λ m. m.superblock.dev_number) a.members k i;
    state = λ k. read_map (lowered_member sector) model.State.Faulty (λ m. kind_of m.state) a.members k i;
    due = λ k. (ap (λ o. unwrap_or (option_map (λ m. m.due) o) false) (slice_get-map (lowered_member sector) a.members k) ∙ due_mapped (slice_get a.members k)) i;
    known = λ k c. read_map (lowered_member sector) false (λ m. nat_lt c a.marks.chunks && is_set m.stored.bytes c) a.members k i;
    bad = λ k s. read_map (lowered_member sector) false (λ m. lists_of a m s) a.members k i;
    offset = λ k. read_map (lowered_member sector) 0 (λ m. m.offset) a.members k i;
    sure_offset = λ k. (ap (λ o. unwrap_or (option_map (λ m. m.superblock.recovery_offset) o) 0) (slice_get-map (lowered_member sector) a.members k) ∙ sure_mapped (slice_get a.members k)) i;
    stored_offset = λ k. read_map (lowered_member sector) 0 (λ m. m.stored_offset) a.members k i;
    recovering = λ k. read_map (lowered_member sector) false (λ m. has_recovery_offset m.superblock) a.members k i;
    present = λ d. any_map (λ m. eqb m.superblock.dev_number d) (lowered_member sector) a.members i;
  }

  -- ---- it stays consistent
  was : (k : ℕ) (n : MemberView) → IsMember b k n → (m : MemberView) × IsMember a k m × (n ≡ lowered_member sector m)
  was k n e = at_map (lowered_member sector) a.members k n e

  roles_lowered : HasRoles a → HasRoles b
  roles_lowered r = record {
    few = let few = r.few in let same = length-map a.members (lowered_member sector) in omega arith;
    numbers = λ j k m n x y same.
        let p = was j m x in
        let q = was k n y in
        r.numbers j k p.0 q.0 p.1 q.1 (ap (λ (o : MemberView). o.superblock.dev_number) (sym p.2) ∙ same ∙ ap (λ (o : MemberView). o.superblock.dev_number) q.2);
    shared = λ k role m x takes.
        let p = was k m x in
        ap (λ (o : MemberView). role_in a.shared o.superblock.dev_number) p.2
        ∙ r.shared k role p.0 p.1 (ap (λ (o : MemberView). takes_role role o.state) (sym p.2) ∙ takes);
    below = λ k role m x takes.
        let p = was k m x in
        r.below k role p.0 p.1 (ap (λ (o : MemberView). takes_role role o.state) (sym p.2) ∙ takes);
    one_each = λ j k role m n x y takes others.
        let p = was j m x in
        let q = was k n y in
        r.one_each j k role p.0 q.0 p.1 q.1 (ap (λ (o : MemberView). takes_role role o.state) (sym p.2) ∙ takes) (ap (λ (o : MemberView). takes_role role o.state) (sym q.2) ∙ others);
    serving = λ runs.
        let s = r.serving runs in
        (s.0, lowered_member sector s.1, record { member = got_in_map (lowered_member sector) a.members s.0 s.1 s.2.member; in_sync = s.2.in_sync });
  }

  chunks_lowered : HasMarksOfSize a → HasMarksOfSize b
  chunks_lowered c = record {
    size = c.size;
    count = c.count;
    wide = c.wide;
    none_past = c.none_past;
    member_size = λ k m x. let p = was k m x in ap (λ (o : MemberView). o.superblock.size) p.2 ∙ c.member_size k p.0 p.1;
    member_width = λ k m x. let p = was k m x in ap (λ (o : MemberView). o.header.chunksize / 512) p.2 ∙ c.member_width k p.0 p.1;
    member_count = λ k m x. let p = was k m x in ap (λ (o : MemberView). o.stored.chunks) p.2 ∙ c.member_count k p.0 p.1;
  }

  pub lowered_is_consistent : (disks : List Disk) → IsConsistent (record { disks = disks; array = a }) → IsConsistent (record { disks = disks; array = b })
  lowered_is_consistent disks c = record {
    fits = record {
      as_many = c.fits.as_many ∙ sym (length-map a.members (lowered_member sector));
      each = λ k d m at x.
          let p = was k m x in
          let near : IsNear p.0 m = subst (IsNear p.0) (sym p.2) (near_lowered sector p.0) in
          fits_places a b p.0 m d d refl near.places refl (c.fits.each k d p.0 at p.1);
    };
    roles = roles_lowered c.roles;
    chunks = chunks_lowered c.chunks;
    inside = c.inside;
    supers = λ runs k d m at x in_sync honest.
        let p = was k m x in
        let s = c.supers runs k d p.0 at p.1 (ap (λ (o : MemberView). is_in_sync o.state) (sym p.2) ∙ in_sync) honest in
        subst (λ (o : MemberView). HasSuper o d) (sym p.2) (super_lowered sector p.0 d s);
  }

  pub lowered_keeps_pending : (p : PendingView) → IsPending a p → IsPending b p
  lowered_keeps_pending p is = record {
    belongs = is.belongs;
    extent = is.extent;
    whole = is.whole;
    room = let same = count_map (lacks p) (lowered_member sector) a.members in let room = is.room in omega arith;
  }

  pub degraded_lowered : is_degraded b ≡ is_degraded a
  degraded_lowered = ap (λ (f : ℕ → Bool). list_any (λ role. not (f role)) (range_with_len 0 a.shared.raid_disks)) (λ i role. filled role i)
    where
      filled : (role : ℕ) → is_filled b role ≡ is_filled a role
      filled role = any_map (λ m. is_in_sync_as role m.state) (lowered_member sector) a.members

  -- ---- what an opening would read
  pub lowered_read : (disks : List Disk) (failed_at : ℕ) (spoiled : ℕ → Bool) → AreReadAsKept (record { disks = disks; array = a }) failed_at spoiled
      → AreReadAsKept (record { disks = disks; array = b }) failed_at spoiled
  lowered_read disks failed_at spoiled are j e x found member =
      let y = was j x member in
      let had = are j e y.0 found y.1 in
      subst (λ (z : MemberView). IsReadAsKept b z failed_at (spoiled j) e.content) (sym y.2)
      (record { super = λ un. own_at_offset (sure_of sector y.0) a.shared y.0.superblock e.content (had.super un); header = had.header })
