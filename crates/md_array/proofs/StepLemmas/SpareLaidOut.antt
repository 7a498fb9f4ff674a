-- The device on which a spare was laid out: it has the superblock that the model says, all chunks are marked there, nothing is listed, and
-- an opening would read what is kept of it.
use Rattle.std.proofs.Common.{◌≡◌, ℕ, ◌+◌, ◌*◌, ◌/◌, ◌<◌, ◌≤◌, true, false, not, ◌&&◌, ◌==◌, bit_and, nat_lt, List, drop, length, Some, inl, sym, ap, ◌∙◌, subst, arith, lt-ltb, Bool}
use Rattle.md_format.specs.Fields.{number_at}
use Rattle.md_super.specs.declared.superblock.Superblock.{Superblock}
use Rattle.md_super.specs.Encoding.{super_bytes}
use Rattle.md_super.specs.Faults.{NoSuperFault}
use Rattle.md_super.specs.Format.{IsSuper}
use Rattle.md_super.specs.Log.{has_bad_block_log}
use Rattle.md_super.proofs.Unique.{unique}
use Rattle.md_bitmap.specs.Marks.{is_set}
use Rattle.md_bitmap.proofs.Encoded.{length-header_bytes, reads_back}
use Rattle.md_create.specs.declared.params.NewMember.{NewMember}
use Rattle.md_create.specs.Layout.{IsLaidOutAs}
use Rattle.md_create.specs.ReadBack.{IsReadBack, sealed}
use Rattle.md_create.proofs.Laid.{few_sectors}
use Rattle.md_members.proofs.DeviceWriteLemmas.Frames.{outside_none}
use Rattle.md_kept_members.specs.OnDevices.Storing.{sector_from_super}
use Rattle.md_state.specs.Steps.Add.{IsSpareOf, added}
use Rattle.md_state.specs.View.{ArrayView}
use Rattle.md_array.specs.Steps.Add.{kept_of}
use Rattle.md_array.specs.ReadAsKept.{HasOwnSuper, HasWidth, IsReadAsKept}
use Rattle.md_array.specs.Worlds.{block_on, header_on, is_listed, is_logged, list_bit, stored_of, super_in, super_of}
use Rattle.md_array.proofs.General.Tests.{and_same}
use Rattle.md_array.proofs.Worlds.Listed.{same_log}
use Rattle.md_array.proofs.Worlds.Supers.{super_shown}
use Rattle.md_array.proofs.Worlds.Writes.{HoldsBitmap, holds_stored}
use Rattle.md_model.proofs.Cases.{is_below}

module _ (a : ArrayView) (number sectors : ℕ) (laid : NewMember) (spare : IsSpareOf a number sectors laid) (readable : IsReadBack laid.superblock)
    (before now : List ℕ) (done : IsLaidOutAs before laid now) where
  abbrev v : Superblock
  v = laid.superblock

  block : block_on now ≡ super_bytes v
  block = done.superblock

  fields : IsSuper (block_on now) (sealed v)
  fields = subst (λ (bytes : List ℕ). IsSuper bytes (sealed v)) (sym block) readable.fields

  -- ---- its superblock
  pub super_there : super_in (block_on now) ≡ Some (super_of v)
  super_there = super_shown (block_on now) (sealed v) fields (subst NoSuperFault (sym block) readable.sound)

  -- it lists nothing
  pub none_listed : (sector : ℕ) → is_listed v now sector ≡ false
  unfolding is_listed
  none_listed sector =
      let bit : number_at 4 8 (block_on now) ≡ 1 = sym fields.feature_map ∙ laid.new.places.feature_map in
      ap (λ o. (list_bit v (block_on now) o && has_bad_block_log v) && is_logged now (sector_from_super v.bblog_offset) v.bblog_size v.bblog_shift sector) super_there
      ∙ ap (λ (n : ℕ). (not (bit_and n 8 == 0) && has_bad_block_log v) && is_logged now (sector_from_super v.bblog_offset) v.bblog_size v.bblog_shift sector) bit

  -- ---- its bitmap
  starts : sector_from_super v.bitmap_offset ≡ 16
  starts = ap sector_from_super laid.new.places.bitmap_offset

  module _ (long : 2048 ≤ length now / 512) where
    pub holds : HoldsBitmap now 16 laid.header laid.marks
    holds =
        let h = spare.header in
        let few = few_sectors laid in
        holds_stored 16 laid.header laid.marks now now (length-header_bytes laid.header h.uuid_long h.name_long) (reads_back laid.header h.uuid_long h.name_long h.counts_fit h.settings_fit)
        (omega arith)
        (record { outside = outside_none _ _ now; each = λ i low high. done.bitmap i high })

    pub bits_there : (c : ℕ) → c < laid.marks.chunks → is_set (drop (512 * sector_from_super v.bitmap_offset + 256) now) c ≡ is_set laid.marks.bytes c
    bits_there c low = ap (λ (start : ℕ). is_set (drop (512 * start + 256) now) c) starts ∙ holds.bits c low

    marked : (c : ℕ) → c < laid.marks.chunks → is_set laid.marks.bytes c ≡ true
    marked c low = spare.spare.marks.bits c ∙ lt-ltb c _ (subst (λ n. c < n) spare.spare.marks.chunks_are low)

    pub all_marked : (c : ℕ) → c < laid.marks.chunks → is_set (drop (512 * sector_from_super v.bitmap_offset + 256) now) c ≡ true
    all_marked c low = bits_there c low ∙ marked c low

    -- the marks that are kept are those that stand there
    pub known_there : laid.marks.chunks ≡ a.marks.chunks → (c : ℕ) → (nat_lt c a.marks.chunks && is_set laid.marks.bytes c) ≡ (stored_of (added a laid) (kept_of laid) now).bits c
    known_there count c = and_same (nat_lt c a.marks.chunks) _ _ (λ low. sym (bits_there c (subst (λ n. c < n) (sym count) (is_below c a.marks.chunks low))))

    width_on : laid.header.chunksize / 512 ≡ a.chunks.sectors → HasWidth a.chunks.sectors v now
    width_on width =
        ap (λ (start : ℕ). number_at 4 52 (header_on now start) / 512) starts
        ∙ ap (λ (n : ℕ). n / 512) (sym holds.header.chunksize)
        ∙ width

    -- ---- an opening
    own_there : HasOwnSuper (added a laid).shared v now
    own_there u on =
        let same : u ≡ sealed v = unique (block_on now) u (sealed v) on.fields fields in
        let s = spare.spare.superblock in
        record {
          set_uuid = ap (λ (x : Superblock). x.set_uuid) same ∙ s.set_uuid;
          size = ap (λ (x : Superblock). x.size) same ∙ s.size_is;
          raid_disks = ap (λ (x : Superblock). x.raid_disks) same ∙ s.raid_disks;
          data_offset = ap (λ (x : Superblock). x.data_offset) same;
          bitmap_offset = ap (λ (x : Superblock). x.bitmap_offset) same;
          bblog_size = ap (λ (x : Superblock). x.bblog_size) same;
          bblog_offset = ap (λ (x : Superblock). x.bblog_offset) same;
          bblog_shift = λ _. ap (λ (x : Superblock). x.bblog_shift) same;
          listed = λ sector. same_log u v now sector
              (ap (λ (x : Superblock). x.feature_map) same) (ap (λ (x : Superblock). x.bblog_shift) same) (ap (λ (x : Superblock). x.bblog_size) same) (ap (λ (x : Superblock). x.bblog_offset) same);
          no_newer = let events : u.events ≡ a.shared.events + 1 = ap (λ (x : Superblock). x.events) same ∙ s.events in omega arith;
        }

    pub read_there : (failed_at : ℕ) (is_spoiled : Bool) → laid.header.chunksize / 512 ≡ a.chunks.sectors → IsReadAsKept (added a laid) (kept_of laid) failed_at is_spoiled now
    read_there failed_at is_spoiled width = record { super = λ _. own_there; header = λ _. inl (width_on width) }
