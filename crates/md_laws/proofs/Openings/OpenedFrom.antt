-- What the opening changed: all marks are stored where the bitmap was not accepted, and all else is as it was.
use Rattle.std.proofs.Common.{◌≡◌, ℕ, ◌+◌, ◌<◌, ◌≤◌, ◌↔◌, inl, inr, true, false, cond, ◌&&◌, nat_lt, List, [], length, slice_get, Some, refl, sym, ap, ◌∙◌, subst, arith, lt-ltb}
use Rattle.std.proofs.lemmas.Option.{none-some, slice_get_past, slice_get_within}
use Rattle.std.proofs.lemmas.Bool.{and_from}
use Rattle.md_badblocks.specs.Runs.{IsBad}
use Rattle.md_model.specs.Devices.{Covered, Stored, Super, is_marked}
use Rattle.md_model.specs.Openings as openings
use Rattle.md_model.specs.Sectors.{chunk_of}
use Rattle.md_model.specs.Worlds as worlds
use Rattle.md_model.proofs.Lives.OpeningCovers.{accepted-bits}
use Rattle.md_model.proofs.Steps.Tracked.{agree_as}
use Rattle.md_kept_members.specs.View.{MemberView}
use Rattle.md_state.specs.View.{Disk, ArrayView, MirrorView, geometry_of}
use Rattle.md_state.specs.Members.{IsMember}
use Rattle.md_array.specs.Open.Opened.{IsOpenedFrom}
use Rattle.md_array.specs.ReadAsKept.{AreReadAsKept, IsReadAsKept}
use Rattle.md_array.specs.Worlds.{AreHonest, is_listed, nothing_stored, stored_of, stored_on, super_of, world_of, world_on, none_in_flight}
use Rattle.md_array.proofs.Worlds.Device.{all_or_same, bad_is_listed, bits_new, is_accepted_new, read_new, same_data, same_listed}
use Rattle.md_array.proofs.Worlds.ReadMember.{chunk_of_sector, super_old}
use Rattle.md_array.proofs.Worlds.Shown.{IsShown, as_read, by_member, in_sync_is, own_is, shown, stored_at, stored_is, super_at}
use Rattle.md_laws.proofs.Openings.Opened.{opened}
use Rattle.md_assembly.proofs.Indices.{got_same}

module _ (before : List Disk) (m : MirrorView) (honest : AreHonest before) (o : IsOpenedFrom before m) where
  abbrev a : ArrayView
  a = m.array

  abbrev was : worlds.World
  was = world_on before a none_in_flight

  abbrev w : worlds.World
  w = world_of m none_in_flight

  abbrev seen : (k : ℕ) (mv : MemberView) → IsMember a k mv → IsShown before m o.array.infos k mv
  seen = shown before m honest o

  stored_before : (k : ℕ) (mv : MemberView) (is : IsMember a k mv) → was.stored k ≡ stored_of a mv (seen k mv is).old.content
  stored_before k mv is = let s = seen k mv is in stored_is a (slice_get a.members k) (slice_get before k) mv s.old is s.was

  stored_after : (k : ℕ) (mv : MemberView) (is : IsMember a k mv) → w.stored k ≡ stored_of a mv (seen k mv is).new.content
  stored_after = stored_at before m honest o

  super_before : (k : ℕ) (mv : MemberView) (is : IsMember a k mv) → (was.stored k).super ≡ Some (as_read before m honest o k mv is)
  super_before k mv is = let s = seen k mv is in ap (λ (d : Stored). d.super) (stored_before k mv is) ∙ super_old a mv s.info s.old.content s.opened.member

  none_before : (k : ℕ) → length a.members ≤ k → was.stored k ≡ nothing_stored
  none_before k past = ap (λ x. stored_on a x (slice_get before k)) (slice_get_past a.members k past)

  pub super_was : (k : ℕ) (own : Super) → (w.stored k).super ≡ Some own → (was.stored k).super ≡ Some own
  super_was k own e = let x = own_is before m honest o k own e in super_before k x.0 x.1 ∙ ap Some x.2

  pub super_stays : (k : ℕ) (own : Super) → (was.stored k).super ≡ Some own → (w.stored k).super ≡ Some own
  super_stays k own e = by_member a k
      (λ mv is. super_at before m honest o k mv is ∙ sym (super_before k mv is) ∙ e)
      (λ past. absurd (none-some own (sym (ap (λ (d : Stored). d.super) (none_before k past)) ∙ e)))

  member_at : (k : ℕ) → k < length a.members → (mv : MemberView) × IsMember a k mv
  member_at k low = by_member a k (λ mv is. (mv, is)) (λ past. absurd (omega arith))

  -- a member in sync is one
  is_there : (k : ℕ) → worlds.IsInSync w k → k < length a.members
  is_there k i = let x = in_sync_is before m honest o k i in slice_get_within a.members k x.0 x.1

  same_content : (k s : ℕ) → s < a.chunks.size → k < length a.members → (w.stored k).content s ≡ (was.stored k).content s
  same_content k s low i =
      let x = member_at k i in
      let t = seen k x.0 x.1 in
      ap (λ (d : Stored). d.content s) (stored_after k x.0 x.1)
      ∙ ap (λ bytes. cond (nat_lt s a.chunks.size) bytes []) (same_data a x.0 t.info t.old t.new t.opened s low)
      ∙ sym (ap (λ (d : Stored). d.content s) (stored_before k x.0 x.1))

  same_list : (k s : ℕ) → k < length a.members → (w.stored k).listed s ≡ (was.stored k).listed s
  same_list k s i =
      let x = member_at k i in
      let t = seen k x.0 x.1 in
      ap (λ (d : Stored). d.listed s) (stored_after k x.0 x.1)
      ∙ ap (λ b. nat_lt s a.chunks.size && b) (same_listed a x.0 t.info t.old t.new t.opened _)
      ∙ sym (ap (λ (d : Stored). d.listed s) (stored_before k x.0 x.1))

  -- the bits are the marks that were stored
  pub same_marks : (k s : ℕ) → s < a.chunks.size → worlds.IsInSync w k → (w.stored k).bits (chunk_of (geometry_of a) s) ≡ is_marked (was.stored k) (chunk_of (geometry_of a) s)
  same_marks k s low i =
      let c = chunk_of (geometry_of a) s in
      let x = in_sync_is before m honest o k i in
      let t = seen k x.0 x.1 in
      let below : c < a.marks.chunks = chunk_of_sector a x.0 t.info t.old.content t.opened.member s low in
      ap (λ (d : Stored). d.bits c) (stored_after k x.0 x.1)
      ∙ elim (all_or_same a x.0 t.info t.old t.new t.opened) [
        | inl marked ↦
            and_from (nat_lt c a.marks.chunks) _ (lt-ltb c a.marks.chunks below) (bits_new a x.0 t.info t.old t.new t.opened x.2 c below ∙ marked.all c below)
            ∙ sym (ap (λ b. cond b ((stored_of a x.0 t.old.content).bits c) true) marked.refused)
        | inr same ↦
            sym (accepted-bits (stored_of a x.0 t.new.content) c (is_accepted_new a x.0 t.info t.old t.new t.opened x.2))
            ∙ ap (λ content. is_marked (stored_of a x.0 content) c) same
      ]
      ∙ sym (ap (λ (d : Stored). is_marked d c) (stored_before k x.0 x.1))

  pub opened_from : openings.IsOpenedFrom (geometry_of a) was.stored (super_of a.shared) w
  opened_from = record {
    opened = opened before m honest o;
    at = λ k. k;
    super = super_was;
    all = λ k own e. (k, super_stays k own e);
    content = same_content;
    listed = λ k s low i. same_list k s i;
    bits = same_marks;
  }

  -- each is the device at its place
  pub opened_in_place : (j : ℕ) → opened_from.at j ≡ j
  unfolding opened_from
  opened_in_place j = refl

  pub covered : Covered (geometry_of a) was.stored (worlds.IsInSync w) → Covered (geometry_of a) w.stored (worlds.IsInSync w)
  covered h i j k s low x y z off =
      let c = chunk_of (geometry_of a) s in
      agree_as (was.stored j) (was.stored k) (w.stored j) (w.stored k) s
      (same_content j s low (is_there j y)) (same_content k s low (is_there k z)) (same_list j s (is_there j y)) (same_list k s (is_there k z))
      (h i j k s low x y z (sym (same_marks i s low x) ∙ sym (accepted-bits (w.stored i) c ((opened before m honest o).marks.accepted i x)) ∙ off))

  -- the bad sets that are kept are those that are listed
  pub listed_is_kept : (k : ℕ) (mv : MemberView) → IsMember a k mv → (s : ℕ) → s < a.chunks.size → (w.stored k).listed s ≡ true ↔ IsBad mv.bad (mv.superblock.data_offset + s)
  listed_is_kept k mv is s low =
      let t = seen k mv is in
      let bad = bad_is_listed a mv t.info t.old t.new t.opened (mv.superblock.data_offset + s) in
      let there : (w.stored k).listed s ≡ is_listed mv.superblock t.new.content (mv.superblock.data_offset + s) =
      ap (λ (d : Stored). d.listed s) (stored_after k mv is)
      ∙ ap (λ b. b && is_listed mv.superblock t.new.content (mv.superblock.data_offset + s)) (lt-ltb s a.chunks.size low) in
      ((λ e. bad.0 (sym there ∙ e)), (λ h. there ∙ bad.1 h))

  -- an opening would read what is kept
  pub opened_read : AreReadAsKept m 0 (λ _. false)
  opened_read k d mv at_disk is =
      let t = seen k mv is in
      subst (λ (x : Disk). IsReadAsKept a mv 0 false x.content) (got_same m.disks k t.new d t.is at_disk) (read_new a mv t.info t.old t.new t.opened false)
