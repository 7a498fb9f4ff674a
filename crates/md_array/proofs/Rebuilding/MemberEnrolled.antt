-- A member that was rebuilt comes into sync: the mirror stays consistent, and an opening reads what is kept.
use Rattle.std.proofs.Common.{◌≡◌, ℕ, ◌+◌, ◌/◌, inl, true, not, map, slice_get, Some, refl, sym, ap, ◌∙◌, subst, arith, ◌↔◌, Bool, false}
use Rattle.std.proofs.lemmas.Option.{slice_get_within}
use Rattle.md_kept_members.specs.OnDevices.Superblocks.{IsReadable}
use Rattle.md_array.proofs.Rebuilding.RoleTaken.{TakesRole}
use Rattle.md_array.specs.Consistency.{HasSuper, IsConsistent}
use Rattle.md_array.specs.Steps.Enrol.{AreEnrolWrites, Enrols}
use Rattle.md_array.specs.ReadAsKept.{AreReadAsKept, IsReadAsKept}
use Rattle.md_array.specs.Worlds.{AreHonest, is_listed}
use Rattle.md_array.proofs.General.Indices.{at_map}
use Rattle.md_array.proofs.General.Replaced.{of_set}
use Rattle.md_array.proofs.Worlds.ReadAsKept.{IsSameArray, kept_in, own_written}
use Rattle.md_array.proofs.Worlds.Risen.{risen_is_consistent}
use Rattle.md_array.proofs.Rebuilding.MemberStored.{HoldsMember, holds_member}
use Rattle.md_array.proofs.Rebuilding.EnrolledArray.{chunks_enrolled, few_entries, fits_enrolled, lists_enrolled, roles_enrolled, storable, super_enrolled, takes_by}
use Rattle.md_badblocks.specs.Runs.{IsBad}
use Rattle.md_assembly.specs.declared.state.MemberState.TheVariants.{Recovering}
use Rattle.md_assembly.proofs.Indices.{got_same, got_within}
use Rattle.md_super.specs.declared.superblock.Superblock.{Superblock}
use Rattle.md_super.specs.Merge.{merged}
use Rattle.md_bitmap.specs.declared.header.BitmapHeader.{BitmapHeader}
use Rattle.md_model.proofs.Puts.{by_same, put-miss}
use Rattle.md_model.specs.Sectors.{put}
use Rattle.md_members.specs.DeviceWrites.Writes.{after}
use Rattle.md_kept_members.specs.Enrolling.{HasRoomFor}
use Rattle.md_kept_members.specs.Members.{made_due}
use Rattle.md_kept_members.specs.View.{MemberView}
use Rattle.md_kept_members.specs.Membership.Joining.{entries_with, joined_roles}
use Rattle.md_state.specs.Steps.Enrol.{enrolled}
use Rattle.md_state.specs.Members.{is_degraded}
use Rattle.md_state.specs.View.{ArrayView, Disk, MirrorView}

-- ---- the mirror, once it is in sync
module _ (k : ℕ) (copied lost : ℕ → Bool) (old new : MirrorView) (c : IsConsistent old) (r : Enrols k copied lost old new) where
  abbrev a : ArrayView
  a = old.array

  abbrev m : MemberView
  m = r.comes.member

  abbrev n : MemberView
  n = r.member

  abbrev b : ArrayView
  b = enrolled a k n r.role

  its_entries : entries_with a.shared n.superblock.dev_number ≡ entries_with a.shared m.superblock.dev_number
  its_entries = ap (λ (v : Superblock). entries_with a.shared v.dev_number) r.comes.comes.superblock

  readable : IsReadable (merged b.shared n.superblock)
  readable = subst (λ (x : ArrayView). IsReadable (merged x.shared n.superblock)) r.array r.readable

  takes : TakesRole a k m r.role
  takes =
      let same : r.may.member ≡ m = got_same a.members k r.may.member m r.may.at r.comes.at in
      let state : m.state ≡ Recovering r.role = subst (λ (x : MemberView). x.state ≡ Recovering r.role) same r.may.recovering in
      let named : IsReadable (merged (record a.shared { events = a.shared.events + 1; roles = joined_roles a.shared a.members m.superblock.dev_number r.role }) n.superblock) =
      subst (λ (v : Superblock). IsReadable (merged (record a.shared { events = a.shared.events + 1; roles = joined_roles a.shared a.members v.dev_number r.role }) n.superblock)) r.comes.comes.superblock readable in
      takes_by a k m r.role r.comes.at c.roles state (few_entries a k m r.role r.comes.at c.roles n.superblock named)

  room : HasRoomFor n.superblock n.bad
  room = subst (HasRoomFor n.superblock) (sym r.comes.comes.bad) (subst (λ (v : Superblock). HasRoomFor v r.comes.list) (sym r.comes.comes.superblock) r.comes.room)

  count : n.stored.chunks ≡ a.marks.chunks
  count = r.comes.comes.stored.chunks

  pub are : AreEnrolWrites b n r.writes
  are = subst (λ (x : ArrayView). AreEnrolWrites x n r.writes) r.array r.are

  -- what stands on its device
  pub holds_enrolled : (d e : Disk) → slice_get old.disks k ≡ Some d → slice_get new.disks k ≡ Some e → d.honest ≡ true → HoldsMember b.shared n are.header e.content
  holds_enrolled d e before now honest =
      let does = (r.disks.change d e before now).0 in
      holds_member b n are.start are.starts are.header are.header_is b.shared d.content
      (storable old c k m n r.comes.list d r.comes.at r.comes.comes.superblock count room before)
      readable e.content
      (does.all_done honest ∙ ap (after d.content) are.are)

  -- what its log lists is its list
  pub lists_now : (d e : Disk) → slice_get old.disks k ≡ Some d → slice_get new.disks k ≡ Some e → d.honest ≡ true → (sector : ℕ) → is_listed n.superblock e.content sector ≡ true ↔ IsBad n.bad sector
  lists_now d e before now honest =
      let come = r.comes.comes in
      lists_enrolled old.disks new.disks a c k r.role m n r.comes.at takes r.comes.list come.superblock come.header count come.state
      r.comes.list_is.canonical come.bad room readable are.header e (holds_enrolled d e before now honest)

  honest_before : (d e : Disk) → slice_get old.disks k ≡ Some d → slice_get new.disks k ≡ Some e → e.honest ≡ true → d.honest ≡ true
  honest_before d e before after honest = sym (r.disks.change d e before after).0.kept.honest_kept ∙ honest

  pub enrolled_is_consistent : IsConsistent new
  enrolled_is_consistent =
      let come = r.comes.comes in
      let up = risen_is_consistent old (not (is_degraded a)) c in
      subst (λ (x : ArrayView). IsConsistent (record { disks = new.disks; array = x })) (sym r.array) (record {
        fits = fits_enrolled old.disks new.disks a c k r.role m n r.comes.at takes r.comes.list come.superblock come.header count come.state room r.disks.as_many r.disks.others
            (λ d e before after. (r.disks.change d e before after).0.kept.size);
        roles = roles_enrolled old.disks new.disks a c k r.role m n r.comes.at takes r.comes.list come.superblock come.header count come.state;
        chunks = chunks_enrolled old.disks new.disks a c k r.role m n r.comes.at takes r.comes.list come.superblock come.header count come.state;
        inside = c.inside;
        supers = λ running j e x found member in_sync honest. of_set (map made_due a.members) k j n x member
            (λ here x_is.
            let now : slice_get new.disks k ≡ Some e = sym (ap (slice_get new.disks) here) ∙ found in
            let inside = slice_get_within new.disks k e now in
            let many = r.disks.as_many in
            let d = got_within old.disks k (omega arith) in
            subst (λ (z : MemberView). HasSuper z e) (sym x_is)
            (super_enrolled old.disks new.disks a c k r.role m n r.comes.at takes r.comes.list come.superblock come.header count come.state
            r.comes.list_is.canonical come.bad room readable are.header e (holds_enrolled d.0 e d.1 now (honest_before d.0 e d.1 now honest))))
            (λ apart here. up.supers running j e x (sym (r.disks.others j apart) ∙ found) here in_sync honest);
      })

  -- ---- what an opening would read
  same_fields : IsSameArray a b
  same_fields = record { set_uuid = refl; size = refl; raid_disks = refl; sectors = refl; events = omega arith }

  read_at : (failed_at : ℕ) (is_spoiled : Bool) (h : BitmapHeader) (e : Disk) → h.chunksize ≡ n.header.chunksize → HoldsMember b.shared n h e.content
      → IsReadAsKept b n failed_at is_spoiled e.content
  read_at failed_at is_spoiled h e same holds = record {
    super = λ _. own_written b n e.content readable holds.block;
    header = λ _. inl (ap (λ (x : ℕ). x / 512) (sym holds.bitmap.header.chunksize ∙ same ∙ ap (λ (x : BitmapHeader). x.chunksize) r.comes.comes.header) ∙ c.chunks.member_width k m r.comes.at);
  }

  pub enrolled_read : AreHonest old.disks → (failed_at : ℕ) (spoiled : ℕ → Bool) → AreReadAsKept old failed_at spoiled → AreReadAsKept new failed_at (put k false spoiled)
  enrolled_read honest failed_at spoiled was = subst (λ (x : ArrayView). AreReadAsKept (record { disks = new.disks; array = x }) failed_at (put k false spoiled)) (sym r.array)
      (λ j e x found member. of_set (map made_due a.members) k j n x member
      (λ here x_is.
      let now : slice_get new.disks k ≡ Some e = sym (ap (slice_get new.disks) here) ∙ found in
      let inside = slice_get_within new.disks k e now in
      let many = r.disks.as_many in
      let d = got_within old.disks k (omega arith) in
      subst (λ (z : MemberView). IsReadAsKept b z failed_at (put k false spoiled j) e.content) (sym x_is)
      (read_at failed_at (put k false spoiled j) are.header e are.header_is.chunksize (holds_enrolled d.0 e d.1 now (honest k d.0 d.1))))
      (λ apart here.
      let y = at_map made_due a.members j x here in
      kept_in a b y.0 x failed_at (put k false spoiled j) e.content same_fields
      (record { superblock = ap (λ (z : MemberView). z.superblock) y.2; state = ap (λ (z : MemberView). z.state) y.2 })
      (subst (λ (s : Bool). IsReadAsKept a y.0 failed_at s e.content) (sym (put-miss k false spoiled j apart)) (was j e y.0 (sym (r.disks.others j apart) ∙ found) y.1))))

  pub enrolled_honest : AreHonest old.disks → AreHonest new.disks
  enrolled_honest honest j e found = by_same j k
      (λ here.
      let now : slice_get new.disks k ≡ Some e = sym (ap (slice_get new.disks) here) ∙ found in
      let inside = slice_get_within new.disks k e now in
      let many = r.disks.as_many in
      let d = got_within old.disks k (omega arith) in
      (r.disks.change d.0 e d.1 now).0.kept.honest_kept ∙ honest k d.0 d.1)
      (λ apart. honest j e (sym (r.disks.others j apart) ∙ found))
