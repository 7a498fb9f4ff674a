-- What the fields of the next array read of the devices that a crash left is what those of the mirror before read.
use Rattle.std.proofs.Common.{◌≡◌, ℕ, ◌+◌, ◌*◌, ◌/◌, ◌≤◌, inl, inr, true, false, true≢false, cond, ◌&&◌, ◌==◌, nat_lt, List, [], drop, slice_get, Some, refl, sym, ap, ◌∙◌, subst, arith, bytes_eq}
use Rattle.std.specs.Int.{div_ceil}
use Rattle.std.proofs.lemmas.Option.{same_Some, slice_get_within}
use Rattle.md_device.specs.Splice.{part}
use Rattle.md_format.specs.Fields.{number_at, bytes_at}
use Rattle.md_super.specs.declared.superblock.Superblock.{Superblock}
use Rattle.md_super.specs.Faults.{NoSuperFault}
use Rattle.md_bitmap.specs.Marks.{is_set}
use Rattle.md_bitmap.proofs.Limits.{div_ceil-sectors}
use Rattle.md_members.specs.declared.info.MemberInfo.{MemberInfo}
use Rattle.md_members.specs.Reading.{ReadsSuper}
use Rattle.md_model.specs.Sectors.{chunk_of}
use Rattle.md_model.specs.Devices.{Stored, is_marked}
use Rattle.md_model.specs.Crashes as crashes
use Rattle.md_kept_members.specs.View.{MemberView}
use Rattle.md_assembly.specs.States.{is_in_sync}
use Rattle.md_assembly.proofs.Indices.{got_within, got_same}
use Rattle.md_kept_members.specs.OnDevices.Storing.{sector_from_super}
use Rattle.md_state.specs.View.{ArrayView, Disk, geometry_of}
use Rattle.md_state.specs.Members.{IsMember}
use Rattle.md_state.specs.Missing.{is_rebuilt}
use Rattle.md_array.specs.ReadAsKept.{HasWidth, IsOwnSuper, IsReadAsKept, IsSuperOn}
use Rattle.md_array.specs.Open.Opened.{IsArrayOf}
use Rattle.md_array.specs.Worlds.{block_on, header_on, is_listed, stored_of, stored_on, super_in}
use Rattle.md_array.proofs.Worlds.Listed.{listed_kept_of}
use Rattle.md_array.proofs.StepLemmas.Lend.{unrebuilt}
use Rattle.md_array.proofs.StepLemmas.OneMember.{stored_there}
use Rattle.md_array.proofs.Worlds.PartsApart.{HasParts, bitmap_alone, block_beside_bitmap, log_beside_bitmap}
use Rattle.md_array.proofs.Worlds.ReadAsKept.{stays}
use Rattle.md_array.proofs.Worlds.ReadMember.{IsReadMember, count_is, sound_size, width_old}
use Rattle.md_array.proofs.Worlds.Shown.{read_at}
use Rattle.md_array.proofs.Worlds.States.{in_sync_recorded}
use Rattle.md_array.proofs.Worlds.Supers.{block_spells}
use Rattle.md_laws.specs.Lives.{AreFoundAgain, IsFoundAgain}
use Rattle.md_laws.specs.Runs.{Moment}
use Rattle.md_laws.proofs.Crashes.LeftAtCrashes.{parts_on, sorted}
use Rattle.md_laws.proofs.Crashes.LeftContents.{read_in}
use Rattle.md_laws.proofs.Runs.Moments.{IsSoundAt}

-- the superblock of a device that was read
pub super_on : (content : List ℕ) (v : Superblock) → ReadsSuper content true v → IsSuperOn content v
super_on content v r = record { fields = block_spells content v r; sound = subst NoSuperFault (r.read.from_device refl) r.sound }

-- ---- devices that are found again, and the array that they make
module _ (t : Moment) (at_t : IsSoundAt t) (before : List Disk) (is : ArrayView)
    (r : AreFoundAgain t before) (o : IsArrayOf before is) where
  abbrev was : ArrayView
  was = t.mirror.array

  -- a device that is found again, as the member that the array makes of it
  pub record IsMemberAgain (k j : ℕ) (f : IsFoundAgain was r.left before k j) (n : MemberView) : Type 0 where
    pub info : MemberInfo
    pub listed : slice_get o.infos j ≡ Some info
    pub seen : IsReadMember is n info f.disk_now.content
    pub parts : HasParts was f.member f.disk_now.content
    pub alike : stored_of was f.member f.disk_now.content ≡ record (stored_of was f.member f.disk_left.content) {
      bits = (stored_of was f.member f.disk_now.content).bits;
      bitmap_events = (stored_of was f.member f.disk_now.content).bitmap_events;
      bitmap_cleared = (stored_of was f.member f.disk_now.content).bitmap_cleared;
      bitmap_fits = (stored_of was f.member f.disk_now.content).bitmap_fits;
    }
    pub read : IsReadAsKept was f.member t.failed_at false f.disk_now.content

  member_at : (k j : ℕ) → IsFoundAgain was r.left before k j → (n : MemberView) × IsMember is j n
  member_at k j f =
      let low = slice_get_within before j f.disk_now f.at_now in
      let read_many = o.read.as_many in
      let members_many = o.remembered.as_many in
      got_within is.members j (omega arith)

  module _ (k j : ℕ) (there : r.at k ≡ Some j) (n : MemberView) (is_member : IsMember is j n) where
    abbrev f : IsFoundAgain was r.left before k j
    f = r.again k j there

    abbrev content : List ℕ
    content = f.disk_now.content

    abbrev own : Superblock
    own = f.member.superblock

    pub again : IsMemberAgain k j f n
    again =
        let s = read_at before is o j n (r.honest j) is_member in
        let d = (sorted t at_t r.left r.is_left).device k f.disk_left f.member f.at_left f.is_member in
        let old = f.disk_left.content in
        record {
          info = s.info;
          listed = s.listed;
          seen = subst (λ (x : Disk). IsReadMember is n s.info x.content) (got_same before j s.disk f.disk_now s.at f.at_now) s.member;
          parts = parts_on was f.member old content f.as_left.outside.size d.parts;
          alike = bitmap_alone was f.member old content d.parts f.as_left.outside;
          read = stays was f.member t.failed_at false old content (block_beside_bitmap was f.member old content d.parts f.as_left.outside) (log_beside_bitmap was f.member old content d.parts f.as_left.outside)
              (λ width. ap (λ (bytes : ℕ). bytes / 512) f.as_left.chunk_size ∙ width)
              (subst (λ b. IsReadAsKept was f.member t.failed_at b old) (r.readable k j there) d.read);
        }

    abbrev info : MemberInfo
    info = again.info

    is_own : IsOwnSuper was.shared own content info.superblock
    is_own = again.read.super refl info.superblock (super_on content info.superblock again.seen.read.superblock)

    data_offset : n.superblock.data_offset ≡ own.data_offset
    data_offset = ap (λ (v : Superblock). v.data_offset) again.seen.kept.superblock ∙ is_own.data_offset

    pub bitmap_offset : n.superblock.bitmap_offset ≡ own.bitmap_offset
    bitmap_offset = ap (λ (v : Superblock). v.bitmap_offset) again.seen.kept.superblock ∙ is_own.bitmap_offset

    set_uuid : is.shared.set_uuid ≡ was.shared.set_uuid
    set_uuid = sym again.seen.uuid ∙ is_own.set_uuid

    size : is.shared.size ≡ was.shared.size
    size = sym again.seen.size ∙ is_own.size

    raid_disks : is.shared.raid_disks ≡ was.shared.raid_disks
    raid_disks = sym again.seen.raid_disks ∙ is_own.raid_disks

    chunks_size : is.chunks.size ≡ was.chunks.size
    chunks_size = again.seen.array_size ∙ size ∙ sym at_t.sound.chunks.size

    own_there : IsSuperOn content info.superblock
    own_there = super_on content info.superblock again.seen.read.superblock

    listed : (sector : ℕ) → is_listed n.superblock content sector ≡ is_listed own content sector
    unfolding is_listed
    listed sector =
        ap (λ (v : Superblock). is_listed v content sector) again.seen.kept.superblock
        ∙ listed_kept_of content info.superblock info.bad own_there.fields own_there.sound sector
        ∙ is_own.listed sector

    -- the array's chunks are as wide as those that its header tells of
    width_by : HasWidth was.chunks.sectors own content → is.chunks.sectors ≡ was.chunks.sectors
    width_by has =
        sym (width_old is n info content again.seen)
        ∙ (λ i. number_at 4 52 (header_on content (sector_from_super (bitmap_offset i))) / 512)
        ∙ has

    -- which are as wide as before, if it was not rebuilt, and the superblock is from after the last failure
    width : is_rebuilt f.member.state ≡ false → t.failed_at ≤ info.superblock.events → is.chunks.sectors ≡ was.chunks.sectors
    width un fresh = width_by (elim (again.read.header un) [
      | inl has ↦ has
      | inr gone ↦ let old = gone.1 refl info.superblock (super_on content info.superblock again.seen.read.superblock) in absurd (omega arith)
    ])

    -- or if it was in sync
    width_in_sync : is_in_sync f.member.state ≡ true → is.chunks.sectors ≡ was.chunks.sectors
    width_in_sync on = width_by (elim (again.read.header (unrebuilt f.member.state on)) [
      | inl has ↦ has
      | inr gone ↦ absurd (true≢false (sym (in_sync_recorded f.member.state on) ∙ gone.0))
    ])

  -- ---- the array is as it was
  abbrev at_member : ℕ
  at_member = r.recorded.device

  abbrev at_first : ℕ
  at_first = r.recorded.place

  abbrev found_first : IsFoundAgain was r.left before at_member at_first
  found_first = r.again at_member at_first r.recorded.there

  first_member : (n : MemberView) × IsMember is at_first n
  first_member = member_at at_member at_first found_first

  abbrev first_info : MemberInfo
  first_info = info at_member at_first r.recorded.there first_member.0 first_member.1

  recorded_there : t.failed_at ≤ first_info.superblock.events
  recorded_there = r.recorded.recorded found_first.disk_now first_info.superblock found_first.at_now (own_there at_member at_first r.recorded.there first_member.0 first_member.1)

  pub recorded_first : t.failed_at ≤ is.shared.events
  recorded_first =
      let low = recorded_there in
      let fresh = (again at_member at_first r.recorded.there first_member.0 first_member.1).seen.fresh in
      omega arith

  same_width : is.chunks.sectors ≡ was.chunks.sectors
  same_width = elim r.recorded.wide [
    | inl un ↦ width at_member at_first r.recorded.there first_member.0 first_member.1 (un found_first.member found_first.is_member) recorded_there
    | inr (inl on) ↦
        let g = r.again on.device on.place on.there in
        let n = member_at on.device on.place g in
        let same = same_Some on.member g.member (sym on.in_sync.member ∙ g.is_member) in
        width_in_sync on.device on.place on.there n.0 n.1 (ap (λ (m : MemberView). is_in_sync m.state) (sym same) ∙ on.in_sync.in_sync)
    | inr (inr has) ↦ width_by at_member at_first r.recorded.there first_member.0 first_member.1 (has found_first.member found_first.disk_now found_first.is_member found_first.at_now)
  ]

  same_size : is.chunks.size ≡ was.chunks.size
  same_size = let n = first_member in chunks_size at_member at_first r.recorded.there n.0 n.1

  pub same_geometry : geometry_of is ≡ geometry_of was
  same_geometry = let n = first_member in λ i. record { raid_disks = raid_disks at_member at_first r.recorded.there n.0 n.1 i; width = same_width i; size = same_size i }

  pub same_count : is.marks.chunks ≡ was.marks.chunks
  same_count =
      let n = first_member in
      let x = again at_member at_first r.recorded.there n.0 n.1 in
      count_is is n.0 x.info found_first.disk_now.content x.seen
      ∙ sym (div_ceil-sectors is.chunks.size n.0.header.chunksize (sound_size is n.0 x.info found_first.disk_now.content x.seen))
      ∙ ap (div_ceil is.chunks.size) (sym x.seen.width)
      ∙ (λ i. div_ceil (same_size i) (same_width i))
      ∙ sym at_t.sound.chunks.count

  -- ---- and so is what is read of each device
  pub same_stored : (k j : ℕ) (there : r.at k ≡ Some j) (n : MemberView) → IsMember is j n
      → stored_of is n (r.again k j there).disk_now.content ≡ stored_of was (r.again k j there).member (r.again k j there).disk_now.content
  same_stored k j there n is_member =
      let f = r.again k j there in
      let bytes = f.disk_now.content in
      let m = f.member.superblock in
      let at = data_offset k j there n is_member in
      let start = bitmap_offset k j there n is_member in
      let lists : (s : ℕ) → is_listed n.superblock bytes (n.superblock.data_offset + s) ≡ is_listed m bytes (m.data_offset + s) =
      λ s. listed k j there n is_member (n.superblock.data_offset + s) ∙ ap (λ (x : ℕ). is_listed m bytes (x + s)) at in
      λ i. let header = header_on bytes (sector_from_super (start i)) in
      record {
        super = super_in (block_on bytes);
        content = λ s. cond (nat_lt s (same_size i)) (part bytes (512 * (at i + s)) 512) [];
        listed = λ s. nat_lt s (same_size i) && lists s i;
        bits = λ c. nat_lt c (same_count i) && is_set (drop (512 * sector_from_super (start i) + 256) bytes) c;
        bitmap_events = number_at 8 24 header;
        bitmap_cleared = number_at 8 32 header;
        bitmap_fits = bytes_eq (bytes_at 16 8 header) (set_uuid k j there n is_member i) && (number_at 8 40 header == size k j there n is_member i) && (number_at 4 48 header == 0);
      }

  pub read_alike : (k j : ℕ) → r.at k ≡ Some j
      → crashes.IsHalfOpened (geometry_of was) (read_in was r.left k) (stored_on is (slice_get is.members j) (slice_get before j))
  read_alike k j at =
      let f = r.again k j at in
      let n = member_at k j f in
      let left = stored_there r.left was k f.member f.disk_left f.is_member f.at_left in
      let now = stored_there before is j n.0 f.disk_now n.1 f.at_now ∙ same_stored k j at n.0 n.1 in
      let both = now ∙ (again k j at n.0 n.1).alike in
      record {
        super = ap (λ (s : Stored). s.super) both ∙ sym (ap (λ (s : Stored). s.super) left);
        content = ap (λ (s : Stored). s.content) both ∙ sym (ap (λ (s : Stored). s.content) left);
        listed = ap (λ (s : Stored). s.listed) both ∙ sym (ap (λ (s : Stored). s.listed) left);
        marks = λ s low clear. let c = chunk_of (geometry_of was) s in
            ap (λ (d : Stored). is_marked d c) left ∙ f.as_left.marks s low (sym (ap (λ (d : Stored). is_marked d c) now) ∙ clear);
      }
