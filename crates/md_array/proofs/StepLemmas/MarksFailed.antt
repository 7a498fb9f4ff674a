-- A write of a sector of marks fails: that is the model's event, whatever it left of the sector.
use Rattle.std.proofs.Common.{◌≡◌, ℕ, ◌+◌, ◌*◌, ◌<◌, Bool, length, Option, refl, sym, ap, ◌∙◌, subst}
use Rattle.md_device.specs.Splice.{SameOutside}
use Rattle.md_bitmap.proofs.Padded.{length-padded}
use Rattle.md_members.specs.Areas.{bitmap_sectors}
use Rattle.md_model.specs.Devices.{Stored}
use Rattle.md_model.specs.Worlds.{Request}
use Rattle.md_model.specs.Failures.{LeftByMarks}
use Rattle.md_model.specs.Events.{Event, MemberPart}
use Rattle.md_members.specs.DeviceWrites.Writes.{Write}
use Rattle.md_kept_members.specs.View.{MemberView}
use Rattle.md_kept_members.specs.OnDevices.Storing.{sector_from_super}
use Rattle.md_state.specs.View.{ArrayView, Disk, MirrorView}
use Rattle.md_state.specs.Members.{IsMember}
use Rattle.md_state.specs.Steps.StoreMarks.{FailsToStoreMarks}
use Rattle.md_array.specs.Consistency.{IsConsistent}
use Rattle.md_array.specs.Events.{Happens}
use Rattle.md_array.specs.Worlds.{stored_of, world_of, world_on}
use Rattle.md_array.proofs.StepLemmas.OneMember.{stored_there}
use Rattle.md_array.proofs.Worlds.PartsApart.{bits_elsewhere, block_beside_marks, cleared_elsewhere, events_elsewhere, fits_elsewhere, log_beside_marks, marks_alone, parts_of}
use Rattle.md_array.proofs.Worlds.ReadAsKept.{own_stays}
use Rattle.md_array.proofs.Worlds.Failed.{IsThere, does_failing, left, member_fails, there_is}
use Rattle.md_array.proofs.Worlds.InSync.{in_sync_there}
use Rattle.md_array.proofs.Worlds.Outside.{starts_at}
use Rattle.md_array.proofs.Worlds.States.{in_sync_recorded}

module _ (k block : ℕ) (old new : MirrorView) (c : IsConsistent old) (f : FailsToStoreMarks k block old new) (low : block < bitmap_sectors old.array.marks.chunks) where
  abbrev a : ArrayView
  a = old.array

  abbrev m : MemberView
  m = f.member

  abbrev w : Write
  w = f.write

  abbrev first : ℕ
  first = sector_from_super m.superblock.bitmap_offset

  abbrev at : IsMember a k m
  at = f.may.in_sync.member

  sector_outside : (d e : Disk) → SameOutside (512 * w.sector) (length w.bytes) d.content e.content → SameOutside (512 * (first + block)) 512 d.content e.content
  sector_outside d e same =
      let write = f.may.write in
      let sector : w.sector ≡ first + block = ap (λ (x : Write). x.sector) write.is ∙ ap (λ (n : ℕ). n + block) (sym (starts_at m.superblock write.start write.starts)) in
      let long : length w.bytes ≡ 512 = ap (λ (x : Write). length x.bytes) write.is ∙ length-padded 512 _ in
      subst (λ (n : ℕ). SameOutside (512 * (first + block)) n d.content e.content) long
      (subst (λ (s : ℕ). SameOutside (512 * s) (length w.bytes) d.content e.content) sector same)

  left_by_marks : (requests : ℕ → Option Request) (t : IsThere k old.disks new.disks) → LeftByMarks (world_of old requests) k block (left k w old new c f.fails m at requests)
  left_by_marks requests t =
      let was : (world_of old requests).stored k ≡ stored_of a m t.old.content = stored_there old.disks a k m t.old at t.was in
      let is : (world_on new.disks a requests).stored k ≡ stored_of a m t.new.content = stored_there new.disks a k m t.new at t.is in
      let has = parts_of old c k t.old m t.was at in
      let here : block < bitmap_sectors m.stored.chunks = subst (λ (n : ℕ). block < bitmap_sectors n) (sym has.count) low in
      let outside = sector_outside t.old t.new (f.fails.disks.tried.outside t.old t.new t.was t.is) in
      let bits_was = ap (λ (s : Stored). s.bits) was in
      let bits_is = ap (λ (s : Stored). s.bits) is in
      let events_is = ap (λ (s : Stored). s.bitmap_events) is in
      let cleared_is = ap (λ (s : Stored). s.bitmap_cleared) is in
      let fits_is = ap (λ (s : Stored). s.bitmap_fits) is in
      record {
        rest = is ∙ marks_alone a m t.old.content t.new.content has block here outside
            ∙ (λ i. record (sym was i) { bits = sym bits_is i; bitmap_events = sym events_is i; bitmap_cleared = sym cleared_is i; bitmap_fits = sym fits_is i });
        outside = λ n other. ap (λ (b : ℕ → Bool). b n) bits_is ∙ bits_elsewhere a m t.old.content t.new.content has block here outside n other ∙ sym (ap (λ (b : ℕ → Bool). b n) bits_was);
        header = λ other. (
          events_is ∙ events_elsewhere a m t.old.content t.new.content has block here outside other ∙ sym (ap (λ (s : Stored). s.bitmap_events) was),
          cleared_is ∙ cleared_elsewhere a m t.old.content t.new.content has block here outside other ∙ sym (ap (λ (s : Stored). s.bitmap_cleared) was),
          fits_is ∙ fits_elsewhere a m t.old.content t.new.content has block here outside other ∙ sym (ap (λ (s : Stored). s.bitmap_fits) was),
        );
      }

  pub store_marks_fails_happens : Happens old (Event.WriteFails k (MemberPart.BitmapSector block)) new
  store_marks_fails_happens honest requests in_flight =
      let t = there_is old k m w new.disks c at f.fails.disks.tried in
      does_failing k w old new c f.fails m at requests (Event.WriteFails k (MemberPart.BitmapSector block)) honest (w, f.fails.disks) in_flight
      (f.may.running, (left k w old new c f.fails m at requests, (in_sync_there old.disks a requests k m f.may.in_sync, left_by_marks requests t), member_fails k w old new c f.fails m at requests (in_sync_recorded m.state f.may.in_sync.in_sync)))
      tt (λ _. refl) (λ _. refl)
      (λ d e was is.
      let parts = parts_of old c k d m was at in
      let here : block < bitmap_sectors m.stored.chunks = subst (λ (n : ℕ). block < bitmap_sectors n) (sym parts.count) low in
      let outside = sector_outside d e (f.fails.disks.tried.outside d e was is) in
      own_stays a.shared m.superblock d.content e.content (block_beside_marks a m d.content e.content parts block here outside) (log_beside_marks a m d.content e.content parts block here outside))
