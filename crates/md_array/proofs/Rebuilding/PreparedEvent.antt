-- The bitmap and the log of a member that is rebuilt are stored: that is the model's event.
use Rattle.std.proofs.Common.{◌≡◌, ℕ, ◌+◌, ◌*◌, ◌<◌, ◌≤◌, inl, inr, Bool, true, true≢false, not, ◌&&◌, ◌==◌, nat_lt, List, [], slice_get, Option, Some, pos, refl, sym, ap, ◌∙◌, subst, arith}
use Rattle.std.specs.Ordering.{int_eq}
use Rattle.std.proofs.lemmas.Option.{slice_get_within}
use Rattle.md_assembly.proofs.Indices.{got_within}
use Rattle.md_device.specs.Splice.{part}
use Rattle.md_kept_members.specs.View.{MemberView}
use Rattle.md_members.specs.declared.area.Area.{Area}
use Rattle.md_members.specs.Areas.{AreApart, bitmap_area, bitmap_sectors, data_area, has_bad_blocks, log_area, super_area}
use Rattle.md_members.specs.Members.{reads_log}
use Rattle.md_model.specs.Devices.{Stored}
use Rattle.md_model.specs.Events.{Event, Step}
use Rattle.md_model.specs.Rebuilding as model
use Rattle.md_model.specs.Worlds.{Request}
use Rattle.md_model.proofs.Cases.{is_below}
use Rattle.md_kept_members.specs.OnDevices.Storing.{sector_from_super}
use Rattle.md_kept_members.proofs.OnDeviceLemmas.Beside.{apart, sector_at_is}
use Rattle.md_state.specs.Requests.{AreInFlight}
use Rattle.md_state.specs.View.{ArrayView, Disk, MirrorView, geometry_of}
use Rattle.md_super.specs.declared.superblock.Superblock.{Superblock}
use Rattle.md_super.specs.Faults.{NoSuperFault}
use Rattle.md_super.specs.Format.{IsSuper}
use Rattle.md_super.specs.Log.{has_bad_block_log}
use Rattle.md_array.specs.Consistency.{IsConsistent}
use Rattle.md_array.specs.Steps.EnrolEvents.{Prepares}
use Rattle.md_array.specs.Events.{Happens, IsBesideArea, IsBesideMarks, IsSameBesideMarks}
use Rattle.md_array.specs.ReadAsKept.{HasOwnSuper, IsReadAsKept}
use Rattle.md_array.specs.Worlds.{AreHonest, block_on, is_listed, is_logged, stored_of, super_in, world_of}
use Rattle.md_array.proofs.Rebuilding.FilledEvent.{may_rebuild}
use Rattle.md_array.proofs.Rebuilding.OneDevice.{IsOnlyAt, changed_only, only_does, only_left, only_world}
use Rattle.md_array.proofs.StepLemmas.OneMember.{stored_there}
use Rattle.md_array.proofs.General.Tests.{and_same}
use Rattle.md_array.proofs.Worlds.Listed.{bit_read}
use Rattle.md_array.proofs.Worlds.PartsApart.{HasParts, parts_of, same_if}
use Rattle.md_array.proofs.Worlds.ReadAsKept.{super_was}

-- what lies in an area that is apart from another lies beside that
in_apart : (a b : Area) (s start : ℕ) → a.start ≡ pos s → b.start ≡ pos start → AreApart a b → (at n : ℕ) → 512 * s ≤ at → at + n ≤ 512 * (s + a.sectors) → IsBesideArea start b.sectors at n
in_apart a b s start e f h at n from to =
    elim (apart a.start b.start s start a.sectors b.sectors e f h) [
      | inl before ↦ inl (omega arith)
      | inr behind ↦ inr (omega arith)
    ]

module _ (a : ArrayView) (m : MemberView) (old new : List ℕ) (has : HasParts a m old) where
  -- bytes of an area that is apart from the bitmap and from the log lie beside both
  beside_marks : (x : Area) (s : ℕ) → x.start ≡ pos s → AreApart x (bitmap_area m.superblock (bitmap_sectors m.stored.chunks))
      → (has_bad_block_log m.superblock ≡ true → AreApart x (log_area m.superblock))
      → (at n : ℕ) → 512 * s ≤ at → at + n ≤ 512 * (s + x.sectors) → IsBesideMarks m at n
  beside_marks x s is apart_bitmap apart_log at n from to =
      let bitmap : Area = bitmap_area m.superblock (bitmap_sectors m.stored.chunks) in
      record {
        bitmap = in_apart x bitmap s (sector_from_super m.superblock.bitmap_offset) is (sector_at_is bitmap.start has.bitmap.within.from) apart_bitmap at n from to;
        log = λ there. in_apart x (log_area m.superblock) s (sector_from_super m.superblock.bblog_offset) is
            (sector_at_is (log_area m.superblock).start (has.placed.log there).within.from) (apart_log there) at n from to;
      }

  module _ (same : IsSameBesideMarks m old new) where
    pub block_kept : block_on new ≡ block_on old
    block_kept = same.beside 4096 4096 (beside_marks super_area 8 refl has.bitmap.from_super (λ there. (has.placed.log there).from_super) 4096 4096 (omega arith) (omega arith))

    pub sector_kept : (s : ℕ) → s < a.chunks.size → part new (512 * (m.superblock.data_offset + s)) 512 ≡ part old (512 * (m.superblock.data_offset + s)) 512
    sector_kept s low =
        let holds : a.chunks.size ≤ m.superblock.data_size = subst (λ (x : ℕ). x ≤ m.superblock.data_size) has.size has.placed.data_holds in
        same.beside (512 * (m.superblock.data_offset + s)) 512
        (beside_marks (data_area m.superblock) m.superblock.data_offset refl has.bitmap.from_data (λ there. (has.placed.log there).from_data)
        (512 * (m.superblock.data_offset + s)) 512 (omega arith) (omega arith))

    pub content_kept : (stored_of a m new).content ≡ (stored_of a m old).content
    content_kept = λ i s.
        same_if (nat_lt s a.chunks.size) (part new (512 * (m.superblock.data_offset + s)) 512) (part old (512 * (m.superblock.data_offset + s)) 512) []
        (λ low. sector_kept s (is_below s a.chunks.size low)) i

    pub marks_alone : stored_of a m new ≡ record (stored_of a m old) { bits = (stored_of a m new).bits; bitmap_events = (stored_of a m new).bitmap_events; bitmap_cleared = (stored_of a m new).bitmap_cleared; bitmap_fits = (stored_of a m new).bitmap_fits; listed = (stored_of a m new).listed }
    marks_alone = λ i. record {
      super = super_in (block_kept i);
      content = content_kept i;
      listed = (stored_of a m new).listed;
      bits = (stored_of a m new).bits;
      bitmap_events = (stored_of a m new).bitmap_events;
      bitmap_cleared = (stored_of a m new).bitmap_cleared;
      bitmap_fits = (stored_of a m new).bitmap_fits;
    }

-- ---- what an opening would read
-- what is read by the superblock that is there, is read by another that places the log alike, and by the same shift
listed_alike : (v w : Superblock) (content : List ℕ) (sector : ℕ) → IsSuper (block_on content) v → NoSuperFault (block_on content)
    → v.bblog_size ≡ w.bblog_size → v.bblog_offset ≡ w.bblog_offset → (reads_log v ≡ true → v.bblog_shift ≡ w.bblog_shift) → is_listed v content sector ≡ is_listed w content sector
unfolding is_listed
listed_alike v w content sector fields sound size offset shift =
    let by_v = is_logged content (sector_from_super v.bblog_offset) v.bblog_size v.bblog_shift sector in
    let by_w = is_logged content (sector_from_super w.bblog_offset) w.bblog_size w.bblog_shift sector in
    ap (λ b. b && by_v) (bit_read v v content fields sound)
    ∙ and_same (reads_log v) by_v by_w (λ on. λ i. is_logged content (sector_from_super (offset i)) (size i) (shift on i) sector)
    ∙ (λ i. (has_bad_blocks v && (not (size i == 0) && not (int_eq (offset i) (pos 0)))) && by_w)
    ∙ sym (ap (λ b. b && by_w) (bit_read w v content fields sound))

module _ (a : ArrayView) (m : MemberView) (old new : List ℕ) (has : HasParts a m old) (same : IsSameBesideMarks m old new) where
  own_kept : HasOwnSuper a.shared m.superblock old → HasOwnSuper a.shared m.superblock new
  own_kept own v on =
      let was = own v (super_was old new v (block_kept a m old new has same) on) in
      record {
        set_uuid = was.set_uuid;
        size = was.size;
        raid_disks = was.raid_disks;
        data_offset = was.data_offset;
        bitmap_offset = was.bitmap_offset;
        bblog_size = was.bblog_size;
        bblog_offset = was.bblog_offset;
        bblog_shift = was.bblog_shift;
        listed = λ sector. listed_alike v m.superblock new sector on.fields on.sound was.bblog_size was.bblog_offset was.bblog_shift;
        no_newer = was.no_newer;
      }

-- ---- the event
module _ (k : ℕ) (old new : MirrorView) (c : IsConsistent old) (f : Prepares k old new) (honest : AreHonest old.disks) where
  abbrev m : MemberView
  m = f.may.member

  only : IsOnlyAt k old.disks new.disks
  only = changed_only k (IsSameBesideMarks m) old.disks new.disks f.disks

  module _ (d e : Disk) (was : slice_get old.disks k ≡ Some d) (is : slice_get new.disks k ≡ Some e) where
    same : IsSameBesideMarks m d.content e.content
    same = f.disks.changed d e was is (honest k d was)

    parts : HasParts old.array m d.content
    parts = parts_of old c k d m was f.may.at

    read_prepared : (failed_at : ℕ) (is_spoiled : Bool) → IsReadAsKept old.array m failed_at is_spoiled d.content → IsReadAsKept old.array m failed_at is_spoiled e.content
    read_prepared failed_at is_spoiled had = record {
      super = λ un. own_kept old.array m d.content e.content parts same (had.super un);
      header = λ un. absurd (true≢false (sym f.may.rebuilt ∙ un));
    }

    module _ (requests : ℕ → Option Request) (in_flight : AreInFlight old.array requests) where
      abbrev left : Stored
      left = only_left k m old new c f.may.at f.may.rebuilt f.array only requests

      by_preparing : model.LeftByPreparing (world_of old requests) k left
      by_preparing =
          let was_stored : (world_of old requests).stored k ≡ stored_of old.array m d.content = stored_there old.disks old.array k m d f.may.at was in
          let is_stored : left ≡ stored_of old.array m e.content = stored_there new.disks old.array k m e f.may.at is in
          record {
            rest = is_stored ∙ marks_alone old.array m d.content e.content parts same
                ∙ (λ i. record (sym was_stored i) {
                  bits = ap (λ (x : Stored). x.bits) (sym is_stored) i;
                  bitmap_events = ap (λ (x : Stored). x.bitmap_events) (sym is_stored) i;
                  bitmap_cleared = ap (λ (x : Stored). x.bitmap_cleared) (sym is_stored) i;
                  bitmap_fits = ap (λ (x : Stored). x.bitmap_fits) (sym is_stored) i;
                  listed = ap (λ (x : Stored). x.listed) (sym is_stored) i;
                });
          }

      prepare_step : Step (geometry_of old.array) (world_of old requests) (Event.Prepare k) (world_of new requests)
      prepare_step = (f.may.idle.running, (left, may_rebuild k old requests f.may in_flight, by_preparing, only_world k m old new c f.may.at f.may.rebuilt f.array only requests))

pub prepare_happens : (k : ℕ) (old new : MirrorView) → IsConsistent old → Prepares k old new → Happens old (Event.Prepare k) new
prepare_happens k old new c f honest requests in_flight =
    let low = slice_get_within old.array.members k f.may.member f.may.at in
    let as_many = c.fits.as_many in
    let many = f.disks.as_many in
    let d = got_within old.disks k (omega arith) in
    let e = got_within new.disks k (omega arith) in
    only_does k f.may.member old new c f.may.at f.may.rebuilt f.array (only k old new c f honest) requests (Event.Prepare k) honest
    (f.may.member, f.disks) in_flight
    (prepare_step k old new c f honest d.0 e.0 d.1 e.1 requests in_flight)
    tt (λ _. refl) (λ spoiled j apart. refl)
    (λ failed_at spoiled b x was is. read_prepared k old new c f honest b x was is failed_at (spoiled k))
