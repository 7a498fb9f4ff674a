-- What the world shows of a mirror that was opened, member by member.
use Rattle.std.proofs.Common.{◌≡◌, ℕ, ◌<◌, ◌≤◌, inl, inr, true, true≢false, List, length, slice_get, Option, Some, refl, sym, ap, ◌∙◌, subst, arith}
use Rattle.std.proofs.lemmas.Option.{none-some, same_Some, slice_get_cases, slice_get_past, slice_get_within}
use Rattle.md_members.specs.declared.info.MemberInfo.{MemberInfo}
use Rattle.md_members.specs.Members as members
use Rattle.md_assembly.specs.States.{is_in_sync}
use Rattle.md_assembly.proofs.Indices.{got_within}
use Rattle.md_model.specs.States as model
use Rattle.md_model.specs.Devices.{Stored, Super}
use Rattle.md_model.specs.Worlds as worlds
use Rattle.md_model.specs.Worlds.{World}
use Rattle.md_kept_members.specs.View.{MemberView}
use Rattle.md_state.specs.View.{Disk, ArrayView, MirrorView}
use Rattle.md_state.specs.Members.{IsMember}
use Rattle.md_array.specs.Open.Opened.{IsArrayOf, IsOpenedFrom}
use Rattle.md_array.specs.Worlds.{AreHonest, at_member, none_in_flight, nothing_stored, stored_of, stored_on, super_of, kind_of, world_of}
use Rattle.md_array.proofs.Worlds.Device.{IsOpenedMember, super_new}
use Rattle.md_array.proofs.Worlds.ReadMember.{IsReadMember}
use Rattle.md_array.proofs.Openings.Sound.{disks_shared, kept_at, not_fresher, size_shared, uuid_shared}
use Rattle.md_array.proofs.Worlds.States.{same_in_sync}

pub at_is : {A : Type 0} (a : ArrayView) (k : ℕ) (none : A) (of : MemberView → A) (m : MemberView) → IsMember a k m → at_member a k none of ≡ of m
at_is a k none of m is = rw is refl

pub at_past : {A : Type 0} (a : ArrayView) (k : ℕ) (none : A) (of : MemberView → A) → length a.members ≤ k → at_member a k none of ≡ none
at_past a k none of past = rw (slice_get_past a.members k past) refl

pub stored_is : (a : ArrayView) (x : Option MemberView) (y : Option Disk) (m : MemberView) (d : Disk) → x ≡ Some m → y ≡ Some d → stored_on a x y ≡ stored_of a m d.content
stored_is a x y m d e f = rw (e, f) refl

pub by_member : {P : Type 0} (a : ArrayView) (k : ℕ) → ((m : MemberView) → IsMember a k m → P) → (length a.members ≤ k → P) → P
by_member a k is isnt = elim (slice_get_cases a.members k).1 [ inl there ↦ is there.0 there.2 | inr past ↦ isnt past.0 ]

-- a member with what was read of it
pub record IsReadAt (before : List Disk) (a : ArrayView) (infos : List MemberInfo) (k : ℕ) (m : MemberView) : Type 0 where
  pub info : MemberInfo
  pub listed : slice_get infos k ≡ Some info
  pub disk : Disk
  pub at : slice_get before k ≡ Some disk
  pub honest : disk.honest ≡ true
  pub member : IsReadMember a m info disk.content

pub read_at : (before : List Disk) (a : ArrayView) (o : IsArrayOf before a) (k : ℕ) (m : MemberView) → ((d : Disk) → slice_get before k ≡ Some d → d.honest ≡ true) → IsMember a k m → IsReadAt before a o.infos k m
read_at before a o k m honest is =
    let r = o.remembered in
    let low : k < length a.members = slice_get_within a.members k m is in
    let members_many = r.as_many in
    let infos_many = o.read.as_many in
    let info = got_within o.infos k (omega arith) in
    let d = got_within before k (omega arith) in
    let honest_d = honest d.0 d.1 in
    record {
      info = info.0;
      listed = info.1;
      disk = d.0;
      at = d.1;
      honest = honest_d;
      member = record {
        read = subst (λ h. members.IsReadMember d.0.content h info.0) honest_d (o.read.each k d.0 info.0 d.1 info.1);
        kept = kept_at o.infos o.assembly a o.assembled o.sound r k info.0 m info.1 is;
        uuid = uuid_shared o.infos o.assembly a o.assembled o.sound r k info.0 info.1;
        raid_disks = disks_shared o.infos o.assembly a o.assembled o.sound r k info.0 info.1;
        size = size_shared o.infos o.assembly a o.assembled o.sound r k info.0 info.1;
        array_size = r.size;
        width = r.width k m is;
        count = r.mark_count k m is;
        fresh = not_fresher o.infos o.assembly a o.assembled o.sound r k info.0 info.1;
      };
    }

-- a member with what it was opened from
pub record IsShown (before : List Disk) (mirror : MirrorView) (infos : List MemberInfo) (k : ℕ) (m : MemberView) : Type 0 where
  pub info : MemberInfo
  pub listed : slice_get infos k ≡ Some info
  pub old : Disk
  pub new : Disk
  pub was : slice_get before k ≡ Some old
  pub is : slice_get mirror.disks k ≡ Some new
  pub opened : IsOpenedMember mirror.array m info old new

-- an honest member of any mirror
module _ (before : List Disk) (m : MirrorView) (o : IsOpenedFrom before m) where
  pub shown_honest : (k : ℕ) (mv : MemberView) → ((d : Disk) → slice_get before k ≡ Some d → d.honest ≡ true) → IsMember m.array k mv → IsShown before m o.array.infos k mv
  shown_honest k mv honest is =
      let r = read_at before m.array o.array k mv honest is in
      let disks_many = o.marked.same.as_many in
      let low = slice_get_within before k r.disk r.at in
      let new = got_within m.disks k (omega arith) in
      let marked = o.marked.each k r.disk new.0 r.at new.1 mv is in
      record {
        info = r.info;
        listed = r.listed;
        old = r.disk;
        new = new.0;
        was = r.at;
        is = new.1;
        opened = record { honest = r.honest; member = r.member; stored = marked.0; unchanged = λ none. (marked.1 none).0 };
      }

module _ (before : List Disk) (m : MirrorView) (honest : AreHonest before) (o : IsOpenedFrom before m) where
  abbrev pub world : World
  world = world_of m none_in_flight

  pub shown : (k : ℕ) (mv : MemberView) → IsMember m.array k mv → IsShown before m o.array.infos k mv
  shown k mv is = shown_honest before m o k mv (honest k) is

  pub stored_at : (k : ℕ) (mv : MemberView) (is : IsMember m.array k mv) → world.stored k ≡ stored_of m.array mv (shown k mv is).new.content
  stored_at k mv is = let s = shown k mv is in stored_is m.array (slice_get m.array.members k) (slice_get m.disks k) mv s.new is s.is

  pub stored_past : (k : ℕ) → length m.array.members ≤ k → world.stored k ≡ nothing_stored
  stored_past k past = ap (λ x. stored_on m.array x (slice_get m.disks k)) (slice_get_past m.array.members k past)

  -- Of a member's superblock the offset is that which was read: it may be one that does not count.
  abbrev pub as_read : (k : ℕ) (mv : MemberView) → IsMember m.array k mv → Super
  as_read k mv is = record (super_of mv.superblock) { offset = (shown k mv is).info.superblock.recovery_offset }

  pub super_at : (k : ℕ) (mv : MemberView) (is : IsMember m.array k mv) → (world.stored k).super ≡ Some (as_read k mv is)
  super_at k mv is =
      let s = shown k mv is in
      ap (λ (d : Stored). d.super) (stored_at k mv is) ∙ super_new m.array mv s.info s.old s.new s.opened

  -- a superblock that the world shows is a member's
  pub own_is : (k : ℕ) (own : Super) → (world.stored k).super ≡ Some own → (mv : MemberView) × (is : IsMember m.array k mv) × (as_read k mv is ≡ own)
  own_is k own e = by_member m.array k
      (λ mv is. (mv, is, same_Some (as_read k mv is) own (sym (super_at k mv is) ∙ e)))
      (λ past. absurd (none-some own (sym (ap (λ (d : Stored). d.super) (stored_past k past)) ∙ e)))

  pub state_at : (k : ℕ) (mv : MemberView) → IsMember m.array k mv → world.state k ≡ kind_of mv.state
  state_at k mv is = at_is m.array k model.State.Faulty (λ x. kind_of x.state) mv is

  pub state_past : (k : ℕ) → length m.array.members ≤ k → world.state k ≡ model.State.Faulty
  state_past k past = at_past m.array k model.State.Faulty (λ x. kind_of x.state) past

  pub number_at_member : (k : ℕ) (mv : MemberView) → IsMember m.array k mv → world.number k ≡ mv.superblock.dev_number
  number_at_member k mv is = at_is m.array k 0 (λ x. x.superblock.dev_number) mv is

  -- a member in sync is one in the world, and the other way round
  pub in_sync_there : (k : ℕ) (mv : MemberView) → IsMember m.array k mv → is_in_sync mv.state ≡ true → worlds.IsInSync world k
  in_sync_there k mv is e = ap model.is_in_sync (state_at k mv is) ∙ same_in_sync mv.state ∙ e

  pub in_sync_is : (k : ℕ) → worlds.IsInSync world k → (mv : MemberView) × (IsMember m.array k mv) × (is_in_sync mv.state ≡ true)
  in_sync_is k e = by_member m.array k
      (λ mv is. (mv, is, sym (same_in_sync mv.state) ∙ sym (ap model.is_in_sync (state_at k mv is)) ∙ e))
      (λ past. absurd (true≢false (sym e ∙ ap model.is_in_sync (state_past k past))))
