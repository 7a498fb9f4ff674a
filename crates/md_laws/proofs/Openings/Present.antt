-- The members of the world, and the superblock that it goes by.
use Rattle.std.proofs.Common.{◌≡◌, ℕ, ◌<◌, ◌≤◌, ◌↔◌, true, eqb, List, length, slice_get, Some, sym, ap, ◌∙◌, subst, arith, eq-eqb, eqb-true}
use Rattle.std.proofs.lemmas.Option.{slice_get_within}
use Rattle.md_members.specs.declared.info.MemberInfo.{MemberInfo}
use Rattle.md_super.specs.declared.superblock.Superblock.{Superblock}
use Rattle.md_model.specs.Assembly.{IsFreshest}
use Rattle.md_model.specs.Devices.{Stored, Super}
use Rattle.md_model.specs.Openings.{HasMembers}
use Rattle.md_model.specs.Worlds as worlds
use Rattle.md_kept_members.specs.View.{MemberView}
use Rattle.md_kept_members.specs.Kept.{known_offset}
use Rattle.md_kept_members.specs.OwnFields.{kept_superblock}
use Rattle.md_assembly.specs.States.{state_of}
use Rattle.md_assembly.proofs.Indices.{got_within, got_same}
use Rattle.md_state.specs.View.{Disk, ArrayView, MirrorView}
use Rattle.md_state.specs.Members.{IsMember}
use Rattle.md_array.specs.Open.Opened.{IsOpenedFrom}
use Rattle.md_array.specs.Worlds.{AreHonest, super_of, world_of, none_in_flight}
use Rattle.md_array.proofs.Openings.OwnFields.{at_offset, super_same}
use Rattle.md_array.proofs.Worlds.ReadMember.{not_fresher_own}
use Rattle.md_array.proofs.General.Indices.{any_at, at_any}
use Rattle.md_array.proofs.Worlds.Shown.{IsShown, as_read, number_at_member, own_is, shown, stored_past, super_at}
use Rattle.md_array.proofs.Openings.Sound.{freshest_at, numbers_distinct}

module _ (before : List Disk) (m : MirrorView) (honest : AreHonest before) (o : IsOpenedFrom before m) where
  abbrev a : ArrayView
  a = m.array

  abbrev w : worlds.World
  w = world_of m none_in_flight

  abbrev first : Super
  first = super_of a.shared

  abbrev seen : (k : ℕ) (mv : MemberView) → IsMember a k mv → IsShown before m o.array.infos k mv
  seen = shown before m honest o

  -- the offset that is kept of a member
  abbrev pub offset_of : MemberInfo → ℕ
  offset_of info = known_offset a.events_cleared (state_of a.shared info.superblock) info.superblock

  pub superblock_is : (k : ℕ) (mv : MemberView) (is : IsMember a k mv) → mv.superblock ≡ at_offset (offset_of (seen k mv is).info) (kept_superblock (seen k mv is).info)
  superblock_is k mv is = (seen k mv is).opened.member.kept.superblock

  -- its superblock as the world shows it is the one that was read
  pub read_is : (k : ℕ) (mv : MemberView) (is : IsMember a k mv) → as_read before m honest o k mv is ≡ super_of (seen k mv is).info.superblock
  read_is k mv is =
      let info = (seen k mv is).info in
      ap (λ (x : Super). record x { offset = info.superblock.recovery_offset }) (ap super_of (superblock_is k mv is) ∙ super_same info.bad (offset_of info) info.superblock)

  -- ---- the freshest
  pub member_of : (k : ℕ) (info : MemberInfo) → slice_get o.array.infos k ≡ Some info → (mv : MemberView) × (IsMember a k mv)
  member_of k info e =
      let low = slice_get_within o.array.infos k info e in
      let many = o.array.remembered.as_many in
      got_within a.members k (omega arith)

  pub same_info : (k : ℕ) (info : MemberInfo) (mv : MemberView) → slice_get o.array.infos k ≡ Some info → IsMember a k mv → mv.superblock ≡ at_offset (offset_of info) (kept_superblock info)
  same_info k info mv e is = superblock_is k mv is ∙ ap (λ (x : MemberInfo). at_offset (offset_of x) (kept_superblock x)) (got_same o.array.infos k _ _ (seen k mv is).listed e)

  pub freshest : IsFreshest w.stored first
  freshest =
      let f = freshest_at o.array.infos o.array.assembly a o.array.assembled o.array.sound o.array.remembered in
      let at = o.array.assembly.freshest in
      let there = member_of at f.0 f.1 in
      record {
        at = at;
        is = super_at before m honest o at there.0 there.1
            ∙ ap Some (read_is at there.0 there.1 ∙ ap (λ (x : MemberInfo). super_of x.superblock) (got_same o.array.infos at _ _ (seen at there.0 there.1).listed f.1) ∙ ap super_of f.2);
        greatest = λ k own e.
            let x = own_is before m honest o k own e in
            let s = seen k x.0 x.1 in
            subst (λ (v : Super). v.events ≤ a.shared.events) x.2 (not_fresher_own a x.0 s.info s.old.content s.opened.member);
      }

  -- ---- the members
  pub number_here : (k : ℕ) (mv : MemberView) → IsMember a k mv → w.number k ≡ mv.superblock.dev_number
  number_here = number_at_member before m honest o

  distinct : (j k : ℕ) → j < length a.members → k < length a.members → w.number j ≡ w.number k → j ≡ k
  distinct j k lj lk same =
      let x = got_within a.members j lj in
      let y = got_within a.members k lk in
      let s = seen j x.0 x.1 in
      let t = seen k y.0 y.1 in
      numbers_distinct o.array.infos o.array.sound j k s.info t.info s.listed t.listed
      (ap (λ (v : Superblock). v.dev_number) (sym (superblock_is j x.0 x.1)) ∙ sym (number_here j x.0 x.1) ∙ same
      ∙ number_here k y.0 y.1 ∙ ap (λ (v : Superblock). v.dev_number) (superblock_is k y.0 y.1))

  present : (d : ℕ) → (w.present d ≡ true) ↔ ((k : ℕ) × (k < w.members) × (w.number k ≡ d))
  present d = (
    (λ e. let x = at_any (λ (mv : MemberView). eqb mv.superblock.dev_number d) a.members e in
        (x.0, slice_get_within a.members x.0 x.1 x.2, number_here x.0 x.1 x.2 ∙ eqb-true x.1.superblock.dev_number d x.3)),
    (λ x. let mv = got_within a.members x.0 x.1 in
        any_at (λ (mv : MemberView). eqb mv.superblock.dev_number d) a.members x.0 mv.0 mv.1 (eq-eqb mv.0.superblock.dev_number d (sym (number_here x.0 mv.0 mv.1) ∙ x.2))),
  )

  pub has_members : HasMembers w
  has_members = record {
    filled = λ k low. let mv = got_within a.members k low in (as_read before m honest o k mv.0 mv.1, super_at before m honest o k mv.0 mv.1);
    vacant = λ k past. ap (λ (d : Stored). d.super) (stored_past before m honest o k past);
    number = λ k own e. let x = own_is before m honest o k own e in
        ap (λ (v : Super). v.number) (sym x.2) ∙ sym (number_here k x.0 x.1);
    distinct = distinct;
    present = present;
  }
