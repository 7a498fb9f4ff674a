-- The device of a member that is taken back: nothing but its superblock changes there, and an opening would read what is kept of it.
use Rattle.std.proofs.Common.{◌≡◌, ℕ, ◌+◌, ◌*◌, ◌/◌, ◌<◌, true, not, ◌&&◌, ◌==◌, nat_lt, List, drop, inl, Option, Some, None, refl, sym, ap, ◌∙◌, subst, Bool}
use Rattle.std.proofs.lemmas.Nat.{and_or_apart}
use Rattle.std.proofs.lemmas.Option.{same_Some}
use Rattle.md_kept_members.specs.OnDevices.Superblocks.{IsReadable}
use Rattle.md_kept_members.specs.OnDevices.Storing.{sector_from_super}
use Rattle.md_array.proofs.Worlds.Member.{accepted_by}
use Rattle.md_array.specs.ReadAsKept.{HasWidth, IsReadAsKept, chunk_size_on}
use Rattle.md_array.specs.Steps.Record.{super_write}
use Rattle.md_array.specs.Worlds.{block_on, is_listed, is_listed_next, is_logged, list_bit, stored_of, super_in, super_of, header_on, lies_in}
use Rattle.md_array.proofs.General.Tests.{and_same}
use Rattle.md_array.proofs.StepLemmas.Record.{listed_written, lists_alike, readable_super}
use Rattle.md_array.proofs.Worlds.Bad as bad
use Rattle.md_array.proofs.Worlds.Listed.{listed_as_next, listed_kept_of, next_kept}
use Rattle.md_array.proofs.Worlds.Outside.{starts_at}
use Rattle.md_array.proofs.Worlds.PartsApart.{HasParts, header_beside_super, log_beside_super, super_alone}
use Rattle.md_array.proofs.Worlds.Read.{HasRead, header_there, holds_read, read_of}
use Rattle.md_array.proofs.Worlds.ReadAsKept.{own_written}
use Rattle.md_array.proofs.Worlds.Supers.{block_spells}
use Rattle.md_members.specs.Members.{IsAccepted}
use Rattle.md_members.specs.declared.info.MemberInfo.{MemberInfo}
use Rattle.md_members.specs.Areas.{has_bad_blocks}
use Rattle.md_members.specs.Members as members
use Rattle.md_members.specs.Reading.{BitmapStartsAt}
use Rattle.md_badblocks.specs.declared.run.Run.{Run}
use Rattle.md_bitmap.specs.Header.{IsHeader}
use Rattle.md_bitmap.specs.declared.header.BitmapHeader.{BitmapHeader}
use Rattle.md_bitmap.specs.Marks.{Bitmap, is_set}
use Rattle.md_device.specs.Splice.{SameOutside}
use Rattle.md_format.specs.Fields.{number_at}
use Rattle.md_super.specs.declared.superblock.Superblock.{Superblock}
use Rattle.md_super.specs.Faults.{NoSuperFault}
use Rattle.md_super.specs.Log.{has_bad_block_log}
use Rattle.md_super.specs.Merge.{merged}
use Rattle.md_model.specs.Devices.{Stored, Super, is_accepted}
use Rattle.md_model.proofs.Cases.{is_below}
use Rattle.md_kept_members.specs.OwnFields.{kept_superblock}
use Rattle.md_kept_members.specs.TakingBack.{IsKeptTakenBack, recovering}
use Rattle.md_kept_members.specs.View.{MemberView}
use Rattle.md_state.specs.View.{ArrayView}

-- ---- bit 2 of the feature map says nothing of the log
module _ (offset : ℕ) (v : Superblock) (content : List ℕ) (sector : ℕ) where
  same_bad_blocks : has_bad_blocks (recovering offset v) ≡ has_bad_blocks v
  same_bad_blocks = ap (λ n. not (n == 0)) (and_or_apart 8 v.feature_map 2 refl)

  same_list_bit : (block : List ℕ) (o : Option Super) → list_bit (recovering offset v) block o ≡ list_bit v block o
  same_list_bit block (Some s) = refl
  same_list_bit block None = same_bad_blocks

  listed_recovering : is_listed (recovering offset v) content sector ≡ is_listed v content sector
  unfolding is_listed
  listed_recovering =
      ap (λ b. (b && has_bad_block_log v) && is_logged content (sector_from_super v.bblog_offset) v.bblog_size v.bblog_shift sector)
      (same_list_bit (block_on content) (super_in (block_on content)))

  next_recovering : is_listed_next (recovering offset v) content sector ≡ is_listed_next v content sector
  unfolding is_listed_next
  next_recovering = ap (λ b. (b && has_bad_block_log v) && is_logged content (sector_from_super v.bblog_offset) v.bblog_size v.bblog_shift sector) same_bad_blocks

-- ---- as it was read
module _ (content : List ℕ) (offset : ℕ) (info : MemberInfo) (m : MemberView) (taken : IsKeptTakenBack offset info m) (read : members.IsReadMember content true info) where
  abbrev kept : Superblock
  kept = kept_superblock info

  abbrev start : ℕ
  start = sector_from_super kept.bitmap_offset

  -- what is listed is what will be listed
  listed_there : (sector : ℕ) → is_listed m.superblock content sector ≡ is_listed_next m.superblock content sector
  listed_there sector =
      let v = info.superblock in
      let fields = block_spells content v read.superblock in
      let sound = subst NoSuperFault (read.superblock.read.from_device refl) read.superblock.sound in
      ap (λ (own : Superblock). is_listed own content sector) taken.superblock
      ∙ listed_recovering 0 kept content sector
      ∙ listed_kept_of content v info.bad fields sound sector
      ∙ listed_as_next v v content fields sound refl sector
      ∙ sym (bad.same_listed content v info.bad sector read.bad)
      ∙ sym (next_recovering 0 kept content sector)
      ∙ sym (ap (λ (own : Superblock). is_listed_next own content sector) taken.superblock)

  has_read : HasRead content kept m.header info.marks
  has_read = read_of content info info.superblock.recovery_offset kept m.header read refl taken.header

  starts : BitmapStartsAt kept start
  starts = subst (BitmapStartsAt kept) (sym (starts_at kept has_read.bitmap.start has_read.bitmap.at)) has_read.bitmap.at

  pub width_there : (sectors : ℕ) → m.header.chunksize / 512 ≡ sectors → HasWidth sectors m.superblock content
  width_there sectors width =
      ap (λ (own : Superblock). chunk_size_on own content / 512) taken.superblock
      ∙ ap (λ (n : ℕ). n / 512) (sym (header_there content kept m.header start has_read.bitmap.header starts).chunksize)
      ∙ width

  pub bits_there : (c : ℕ) → c < m.stored.chunks → is_set (drop (512 * sector_from_super m.superblock.bitmap_offset + 256) content) c ≡ is_set m.stored.bytes c
  bits_there c low =
      let same : has_read.stored ≡ m.stored = same_Some has_read.stored m.stored (sym has_read.stored_is ∙ taken.stored) in
      let holds = (holds_read content kept m.header has_read.stored start has_read.bitmap starts).bits in
      ap (λ (own : Superblock). is_set (drop (512 * sector_from_super own.bitmap_offset + 256) content) c) taken.superblock
      ∙ subst (λ (b : Bitmap). c < b.chunks → is_set (drop (512 * start + 256) content) c ≡ is_set b.bytes c) same (holds c) low

  -- what its log lists is the list that is kept
  pub listed_is_bad : (sector : ℕ) → is_listed m.superblock content sector ≡ lies_in m.bad sector
  listed_is_bad sector =
      let v = info.superblock in
      let fields = block_spells content v read.superblock in
      let sound = subst NoSuperFault (read.superblock.read.from_device refl) read.superblock.sound in
      let as_read = bad.listed_as_read content v info.bad sector read.bad in
      ap (λ (own : Superblock). is_listed own content sector) taken.superblock
      ∙ listed_recovering 0 kept content sector
      ∙ listed_kept_of content v info.bad fields sound sector
      ∙ listed_as_next v v content fields sound refl sector
      ∙ bad.same_test (is_listed_next v content sector) (lies_in info.bad sector) as_read (bad.bad_from_test info.bad sector, bad.test_from_bad info.bad sector)
      ∙ sym (ap (λ (runs : List Run). lies_in runs sector) taken.bad)

  -- its bitmap is accepted by the world where it is by what was read
  pub accepted_taken : (a : ArrayView) (h : BitmapHeader) → info.header ≡ Some h → IsAccepted info.superblock h → super_in (block_on content) ≡ Some (super_of info.superblock)
      → info.superblock.set_uuid ≡ a.shared.set_uuid → info.superblock.size ≡ a.shared.size → is_accepted (stored_of a m content) ≡ true
  accepted_taken a h has acc super uuid size =
      let same : h ≡ m.header = same_Some h m.header (sym has ∙ taken.header) in
      let there = header_there content kept m.header start has_read.bitmap.header starts in
      let at : sector_from_super m.superblock.bitmap_offset ≡ start = ap (λ (own : Superblock). sector_from_super own.bitmap_offset) taken.superblock in
      accepted_by a m (super_of info.superblock) content h super
      (subst (λ (x : BitmapHeader). IsHeader (header_on content (sector_from_super m.superblock.bitmap_offset)) x) (sym same) (subst (λ i. IsHeader (header_on content i) m.header) (sym at) there))
      (acc.uuid ∙ uuid) (acc.size ∙ size) acc.state acc.events

  -- its events_cleared is the one that was read
  pub cleared_there : (a : ArrayView) (h : BitmapHeader) → info.header ≡ Some h → (stored_of a m content).bitmap_cleared ≡ h.events_cleared
  cleared_there a h has =
      ap (λ (own : Superblock). number_at 8 32 (header_on content (sector_from_super own.bitmap_offset))) taken.superblock
      ∙ sym (header_there content kept m.header start has_read.bitmap.header starts).events_cleared
      ∙ ap (λ (x : BitmapHeader). x.events_cleared) (sym (same_Some h m.header (sym has ∙ taken.header)))

  -- ---- and once its superblock is written
  module _ (a : ArrayView) (r : IsReadable (merged a.shared m.superblock)) (now : List ℕ) (parts : HasParts a m content) (outside : SameOutside (512 * 8) 4096 content now) (block : block_on now ≡ (super_write a m).bytes) where
    listed_now : (sector : ℕ) → is_listed m.superblock now sector ≡ is_listed m.superblock content sector
    listed_now sector =
        listed_written a m now r block sector
        ∙ next_kept m.superblock content now (log_beside_super a m content now parts outside) sector
        ∙ sym (listed_there sector)

    pub stored_now : stored_of a m now ≡ record (stored_of a m content) { super = Some (super_of (merged a.shared m.superblock)) }
    stored_now =
        let super : super_in (block_on now) ≡ Some (super_of (merged a.shared m.superblock)) = ap super_in block ∙ readable_super a m r in
        let listed = lists_alike a m content now listed_now in
        super_alone a m content now parts outside
        ∙ (λ i. record (stored_of a m content) { super = super i; listed = listed i })

    -- the marks that are kept are those that stand there
    pub known_now : (c : ℕ) → (nat_lt c a.marks.chunks && is_set m.stored.bytes c) ≡ (stored_of a m now).bits c
    known_now c =
        let count = parts.count in
        and_same (nat_lt c a.marks.chunks) _ _ (λ low. sym (bits_there c (subst (λ n. c < n) (sym count) (is_below c a.marks.chunks low))))
        ∙ sym (ap (λ (s : Stored). s.bits c) stored_now)

    pub read_now : (failed_at : ℕ) (is_spoiled : Bool) → m.header.chunksize / 512 ≡ a.chunks.sectors → IsReadAsKept a m failed_at is_spoiled now
    read_now failed_at is_spoiled width = record {
      super = λ _. own_written a m now r block;
      header = λ _. inl (ap (λ (h : List ℕ). number_at 4 52 h / 512) (header_beside_super a m content now parts outside) ∙ width_there a.chunks.sectors width);
    }
