-- What a crash leaves of a member's device within the writes of an enrolment: its bitmap and its log have changed at most, or all of them are
-- stored, and the superblock has changed at most.
use Rattle.std.proofs.Common.{Bool, ◌≡◌, ◌⊎◌, ℕ, ◌+◌, ◌-◌, ◌*◌, ◌<◌, inl, inr, true, false, if◌then◌else◌, List, [], ◌∷◌, ◌++◌, length, append_assoc, slice_get, Some, refl, sym, ap, ◌∙◌, subst, arith}
use Rattle.std.specs.Int.{div_ceil}
use Rattle.std.proofs.lemmas.List.{append-nil}
use Rattle.std.proofs.lemmas.Grind.{div_ceil_times}
use Rattle.md_badblocks.specs.Log.{log_bytes}
use Rattle.md_device.specs.Splice.{SameOutside, part}
use Rattle.md_device.proofs.Leaving.{in_three, three_same}
use Rattle.md_kept_members.specs.Enrolling.{log_room}
use Rattle.md_kept_members.specs.View.{MemberView}
use Rattle.md_members.specs.Areas.{bitmap_sectors}
use Rattle.md_kept_members.specs.OnDevices.Storing.{log_writes, sector_from_super}
use Rattle.md_kept_members.specs.OnDevices.Superblocks.{write_of}
use Rattle.md_state.specs.View.{Disk, MirrorView}
use Rattle.md_super.specs.Log.{has_bad_block_log}
use Rattle.md_members.specs.DeviceWrites.Bitmaps.{bitmap_writes}
use Rattle.md_members.specs.DeviceWrites.Writes.{IsCutShort, Write, after}
use Rattle.md_members.proofs.DeviceWriteLemmas.Frames.{outside_around}
use Rattle.md_members.proofs.DeviceWriteLemmas.Runs.{after-append, cut_last}
use Rattle.md_members.proofs.DeviceWriteLemmas.Stored.{stored_cut}
use Rattle.md_array.specs.Consistency.{IsConsistent}
use Rattle.md_array.specs.Steps.Enrol.{Enrols}
use Rattle.md_array.specs.Events.{IsBesideArea, IsBesideMarks, IsSameBesideMarks}
use Rattle.md_array.specs.Worlds.{block_on}
use Rattle.md_array.proofs.Rebuilding.InBetween.{beside_area, beside_bitmap, chunks, content_then, last_outside, log_there, log_width, marked, marks_outside, room_marked, starts, then_beside}
use Rattle.md_array.proofs.Rebuilding.PreparedEvent.{block_kept}
use Rattle.md_array.proofs.Worlds.PartsApart.{parts_of}

module _ (k : ℕ) (copied lost : ℕ → Bool) (old new : MirrorView) (c : IsConsistent old) (r : Enrols k copied lost old new) (d : Disk) (was : slice_get old.disks k ≡ Some d) where
  abbrev it : MemberView
  it = r.comes.member

  abbrev n : MemberView
  n = r.member

  abbrev width : ℕ
  width = bitmap_sectors n.stored.chunks

  abbrev first : List Write
  first = bitmap_writes r.are.start r.are.header n.stored width

  abbrev last : Write
  last = write_of new.array.shared n

  abbrev log : Write
  log = record { sector = sector_from_super n.superblock.bblog_offset; bytes = log_bytes n.bad (log_room n.superblock) }

  abbrev ready : List ℕ
  ready = content_then k copied lost old new c r d was

  some_width : 0 < width
  some_width = let some = div_ceil_times (256 + div_ceil n.stored.chunks 8) 512 (omega arith) in omega (arith, some.0)

  -- bytes beside the bitmap
  beside_first : (left : List ℕ) → SameOutside (512 * (r.are.start + 1)) (512 * (width - 1)) d.content left → (at l : ℕ) → IsBesideMarks it at l → part left at l ≡ part d.content at l
  beside_first left same at l b =
      let whole : SameOutside (512 * r.are.start) (512 * width) d.content left = let some = some_width in outside_around same (512 * r.are.start) (512 * width) (omega arith) (omega arith) in
      let there : IsBesideArea r.are.start width at l =
      subst (λ (x : ℕ). IsBesideArea r.are.start (bitmap_sectors x) at l) (sym (chunks k copied lost old new c r))
      (subst (λ (x : ℕ). IsBesideArea x (bitmap_sectors it.stored.chunks) at l) (starts k copied lost old new c r) b.bitmap) in
      beside_area r.are.start width d.content left whole at l there

  -- within the bitmap: its first sector, which has the header, comes last
  cut_bitmap : (left : List ℕ) → IsCutShort d.content first left → IsSameBesideMarks it d.content left
  cut_bitmap left cut =
      elim (stored_cut r.are.start r.are.header n.stored width d.content left some_width (room_marked k copied lost old new c r d was) cut) [
        | inl all ↦ record {
          size = ap (λ (xs : List ℕ). length xs) all ∙ (marks_outside k copied lost old new c r d was).size;
          beside = λ at l b. ap (λ (xs : List ℕ). part xs at l) all ∙ beside_bitmap k copied lost old new c r d was at l b;
        }
        | inr some ↦ record {
          size = some.size;
          beside = beside_first left some;
        }
      ]

  -- within the log
  cut_log : has_bad_block_log n.superblock ≡ true → (left : List ℕ) → SameOutside (512 * log.sector) (length log.bytes) (marked k copied lost old new c r d was) left → IsSameBesideMarks it d.content left
  cut_log there left same =
      let area : SameOutside (512 * sector_from_super n.superblock.bblog_offset) (512 * n.superblock.bblog_size) (marked k copied lost old new c r d was) left =
      subst (λ (x : ℕ). SameOutside (512 * sector_from_super n.superblock.bblog_offset) x (marked k copied lost old new c r d was) left) (log_width k copied lost old new c r d was there) same in
      record {
        size = area.size ∙ (marks_outside k copied lost old new c r d was).size;
        beside = λ at l b. log_there k copied lost old new c r d was left area there at l b ∙ beside_bitmap k copied lost old new c r d was at l b;
      }

  -- before the superblock's write
  pub cut_first : (left : List ℕ) → IsCutShort d.content (first ++ log_writes n.superblock n.bad) left → IsSameBesideMarks it d.content left
  cut_first left cut = by_log (has_bad_block_log n.superblock) refl
    where
      by_log : (b : _) → has_bad_block_log n.superblock ≡ b → IsSameBesideMarks it d.content left
      by_log true there =
          let writes : first ++ log_writes n.superblock n.bad ≡ first ++ log ∷ [] = ap (λ b. first ++ (if b then log ∷ [] else [])) there in
          elim (cut_last d.content left first log (subst (λ (ws : List Write). IsCutShort d.content ws left) writes cut)) [
            | inl earlier ↦ cut_bitmap left earlier
            | inr (inl mixed) ↦ cut_log there left mixed.outside
            | inr (inr all) ↦ subst (IsSameBesideMarks it d.content) (sym (all ∙ ap (after d.content) (sym writes))) (then_beside k copied lost old new c r d was)
          ]
      by_log false none =
          let writes : first ++ log_writes n.superblock n.bad ≡ first = ap (λ b. first ++ (if b then log ∷ [] else [])) none ∙ append-nil first in
          cut_bitmap left (subst (λ (ws : List Write). IsCutShort d.content ws left) writes cut)

  -- within all of them
  pub cut_enrol : (left : List ℕ) → IsCutShort d.content r.writes left → IsSameBesideMarks it d.content left ⊎ SameOutside (512 * 8) 4096 ready left
  cut_enrol left cut =
      let writes : r.writes ≡ (first ++ log_writes n.superblock n.bad) ++ last ∷ [] = r.are.are ∙ sym (append_assoc first (log_writes n.superblock n.bad) (last ∷ [])) in
      let whole : length last.bytes ≡ 4096 = r.readable.size in
      elim (cut_last d.content left (first ++ log_writes n.superblock n.bad) last (subst (λ (ws : List Write). IsCutShort d.content ws left) writes cut)) [
        | inl earlier ↦ inl (cut_first left earlier)
        | inr (inl mixed) ↦ inr (subst (λ (x : ℕ). SameOutside (512 * 8) x ready left) whole mixed.outside)
        | inr (inr all) ↦ inr (subst (SameOutside (512 * 8) 4096 ready) (sym (all ∙ after-append d.content (first ++ log_writes n.superblock n.bad) (last ∷ []))) (last_outside k copied lost old new c r d was))
      ]

  -- where the superblock stands as before, no more than the bitmap and the log changed
  pub cut_with_super : (left : List ℕ) → IsCutShort d.content r.writes left → block_on left ≡ block_on d.content → IsSameBesideMarks it d.content left
  cut_with_super left cut super =
      elim (cut_enrol left cut) [
        | inl same ↦ same
        | inr same ↦
            let stays : block_on left ≡ block_on ready = super ∙ sym (block_kept old.array it d.content ready (parts_of old c k d it was r.comes.at) (then_beside k copied lost old new c r d was)) in
            let whole : left ≡ ready = three_same (512 * 8) 4096 ready left same (block_on ready) stays ∙ sym (in_three ready (512 * 8) 4096) in
            subst (IsSameBesideMarks it d.content) (sym whole) (then_beside k copied lost old new c r d was)
      ]
