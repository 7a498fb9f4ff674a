-- Where a write of the target's bitmap or of its log failed, nothing changed beside the two.
use Rattle.std.proofs.Common.{Bool, ◌≡◌, ◌≢◌, ◌∙◌, ◌⊎◌, ℕ, zero, suc, ◌+◌, ◌*◌, ◌<◌, ◌≤◌, true, false, if◌then◌else◌, List, [], ◌∷◌, ◌++◌, length, append_assoc, slice_get, Some, refl, sym, ap, subst, arith, inl, inr}
use Rattle.std.specs.Int.{div_ceil}
use Rattle.std.proofs.lemmas.Grind.{div_ceil_times}
use Rattle.std.proofs.lemmas.List.{append-nil}
use Rattle.std.proofs.lemmas.Option.{same_Some, slice_get_within}
use Rattle.md_assembly.proofs.Indices.{got_same, got_within}
use Rattle.md_badblocks.specs.Log.{log_bytes}
use Rattle.md_bitmap.proofs.Blocks.{length-bitmap_sector}
use Rattle.md_device.specs.Device.{written}
use Rattle.md_device.proofs.Leaving.{leaves_less, leaves_none}
use Rattle.md_device.proofs.Splices.{spliced_outside}
use Rattle.md_kept_members.specs.Enrolling.{in_sync_superblock, log_room}
use Rattle.md_kept_members.specs.View.{MemberView}
use Rattle.md_members.specs.Areas.{bitmap_area, bitmap_sectors, log_area}
use Rattle.md_kept_members.specs.OnDevices.Storing.{IsStorable, log_writes, sector_from_super}
use Rattle.md_kept_members.specs.OnDevices.Superblocks.{write_of}
use Rattle.md_kept_members.proofs.OnDeviceLemmas.Beside.{sector_at_is}
use Rattle.md_state.specs.DeviceChanges.{IsLeftAlone, LeavesOn, StaysHonest}
use Rattle.md_state.proofs.Stays.{stays_grown, stays_same}
use Rattle.md_state.specs.DiskWrites.{AtDevice}
use Rattle.md_state.specs.Steps.Enrol.{enrolled}
use Rattle.md_state.specs.Missing.{is_rebuilt}
use Rattle.md_state.specs.View.{Disk, MirrorView, of_disks}
use Rattle.md_super.specs.declared.superblock.Superblock.{Superblock}
use Rattle.md_super.specs.Log.{has_bad_block_log}
use Rattle.md_members.specs.DeviceWrites.Bitmaps.{bitmap_runs, bitmap_write, bitmap_writes, runs_of}
use Rattle.md_members.specs.DeviceWrites.Writes.{FailsInWrites, IsAnyIn, IsCutShort, IsNextMixed, Write, after}
use Rattle.md_members.proofs.DeviceWriteLemmas.Frames.{outside_around, outside_none}
use Rattle.md_members.proofs.DeviceWriteLemmas.Sectors.{length-bitmap_run, runs_from}
use Rattle.md_array.specs.Consistency.{IsConsistent}
use Rattle.md_array.specs.Steps.Enrol.{FailsToEnrol, MayEnrolSectors}
use Rattle.md_array.specs.Steps.EnrolEvents.{FailsAtSuper, Prepares}
use Rattle.md_array.specs.Steps.Fill.{MayRebuild}
use Rattle.md_array.specs.Events.{IsBesideArea, IsBesideMarks, IsChangedAlone, IsSameBesideMarks}
use Rattle.md_array.proofs.Rebuilding.Enrol.{can_store}
use Rattle.md_array.proofs.Rebuilding.InBetween.{beside_area, recovers_rebuilt}
use Rattle.md_array.proofs.Rebuilding.MemberStored.{log_long}
use Rattle.md_array.proofs.Worlds.Device.{fits_on}
use Rattle.md_array.proofs.Worlds.Outside.{starts_at}
use Rattle.md_copy.specs.RebuildEvents.{FailsAtMarks}

-- ---- writes beside which a member's other bytes are
-- the write lies in an area of a device of so many bytes, and what lies beside the member's bitmap and its log lies beside that area
record IsAside (m : MemberView) (long : ℕ) (w : Write) : Type 0 where
  start : ℕ
  sectors : ℕ
  from : start ≤ w.sector
  to : 512 * w.sector + length w.bytes ≤ 512 * (start + sectors)
  room : 512 * (start + sectors) ≤ long
  beside : (at n : ℕ) → IsBesideMarks m at n → IsBesideArea start sectors at n

abbrev AreAside : MemberView → ℕ → List Write → Type 0
AreAside m long [] = Unit {0}
AreAside m long (w ∷ ws) = IsAside m long w × AreAside m long ws

both_aside : (m : MemberView) (long : ℕ) (ws more : List Write) → AreAside m long ws → AreAside m long more → AreAside m long (ws ++ more)
both_aside m long [] more first second = second
both_aside m long (w ∷ ws) more first second = (first.0, both_aside m long ws more first.1 second)

aside_one : (m : MemberView) (w : Write) (old new : List ℕ) → IsAside m (length old) w → IsAnyIn w old new → IsSameBesideMarks m old new
aside_one m w old new is same = record {
  size = same.size;
  beside = λ at n b.
      let from = is.from in
      let to = is.to in
      beside_area is.start is.sectors old new (outside_around same (512 * is.start) (512 * is.sectors) (omega arith) (omega arith)) at n (is.beside at n b);
}

aside_then : (m : MemberView) (old mid new : List ℕ) → IsSameBesideMarks m old mid → IsSameBesideMarks m mid new → IsSameBesideMarks m old new
aside_then m old mid new first second = record { size = second.size ∙ first.size; beside = λ at n b. second.beside at n b ∙ first.beside at n b }

wrote_aside : (m : MemberView) (w : Write) (old : List ℕ) → IsAside m (length old) w → IsSameBesideMarks m old (written old w.sector w.bytes)
wrote_aside m w old is =
    let to = is.to in
    let room = is.room in
    aside_one m w old (written old w.sector w.bytes) is (spliced_outside old (512 * w.sector) w.bytes (length w.bytes) refl (omega arith))

-- One of them failed, and others were to come.
fails_aside : (m : MemberView) (ws : List Write) (last : Write) (done : List Write) (tried : Write) (rest : List Write) (old left : List ℕ) → AreAside m (length old) ws
    → ws ++ last ∷ [] ≡ done ++ tried ∷ rest → rest ≢ [] → IsAnyIn tried (after old done) left → IsSameBesideMarks m old left
fails_aside m [] last [] tried rest old left are order more any = absurd (more (let e : ◌≡◌ {A = List Write} (last ∷ []) (tried ∷ rest) = order in cc))
fails_aside m [] last (x ∷ []) tried rest old left are order more any = absurd (let e : ◌≡◌ {A = List Write} (last ∷ []) (x ∷ tried ∷ rest) = order in cc)
fails_aside m [] last (x ∷ (y ∷ done)) tried rest old left are order more any = absurd (let e : ◌≡◌ {A = List Write} (last ∷ []) (x ∷ y ∷ (done ++ tried ∷ rest)) = order in cc)
fails_aside m (w ∷ ws) last [] tried rest old left are order more any =
    let e : ◌≡◌ {A = List Write} (w ∷ (ws ++ last ∷ [])) (tried ∷ rest) = order in
    let first : tried ≡ w = cc in
    aside_one m w old left are.0 (subst (λ (x : Write). IsAnyIn x old left) first any)
fails_aside m (w ∷ ws) last (x ∷ done) tried rest old left are order more any =
    let e : ◌≡◌ {A = List Write} (w ∷ (ws ++ last ∷ [])) (x ∷ (done ++ tried ∷ rest)) = order in
    let first : x ≡ w = cc in
    let others : ws ++ last ∷ [] ≡ done ++ tried ∷ rest = cc in
    let mid = written old w.sector w.bytes in
    let this = wrote_aside m w old are.0 in
    aside_then m old mid left this
    (fails_aside m ws last done tried rest mid left (subst (λ (long : ℕ). AreAside m long ws) (sym this.size) are.1) others more
    (subst (λ (y : Write). IsAnyIn tried (after (written old y.sector y.bytes) done) left) first any))

not_empty : (ws : List Write) (w : Write) (rest : List Write) → ws ++ w ∷ rest ≢ []
not_empty [] w rest e = let d : ◌≡◌ {A = List Write} (w ∷ rest) [] = e in cc
not_empty (x ∷ ws) w rest e = let d : ◌≡◌ {A = List Write} (x ∷ (ws ++ w ∷ rest)) [] = e in cc

-- within those before it
cut_aside : (m : MemberView) (ws : List Write) (last : Write) (done : List Write) (tried : Write) (rest : List Write) (old left : List ℕ) → AreAside m (length old) ws
    → ws ++ last ∷ [] ≡ done ++ tried ∷ rest → rest ≢ [] → IsCutShort old done left → IsSameBesideMarks m old left
cut_aside m ws last done tried rest old left are order more cut = by_rest cut.rest cut.order cut.mixed
  where
    by_rest : (next : List Write) → done ≡ cut.done ++ next → IsNextMixed next (after old cut.done) left → IsSameBesideMarks m old left
    by_rest [] is same =
        let all : done ≡ cut.done = is ∙ append-nil cut.done in
        fails_aside m ws last cut.done tried rest old left are (order ∙ ap (λ xs. xs ++ tried ∷ rest) all) more
        (subst (IsAnyIn tried (after old cut.done)) (sym same) (outside_none (512 * tried.sector) (length tried.bytes) (after old cut.done)))
    by_rest (w ∷ next) is mixed =
        fails_aside m ws last cut.done w (next ++ tried ∷ rest) old left are
        (order ∙ ap (λ xs. xs ++ tried ∷ rest) is ∙ append_assoc cut.done (w ∷ next) (tried ∷ rest)) (not_empty next tried rest) mixed.outside

-- ---- the writes of an enrolment but the last
module _ (k : ℕ) (copied lost : ℕ → Bool) (old new : MirrorView) (c : IsConsistent old) (r : FailsToEnrol k copied lost old new) where
  abbrev m : MemberView
  m = r.comes.member

  abbrev n : MemberView
  n = r.member

  abbrev width : ℕ
  width = bitmap_sectors n.stored.chunks

  superblock : n.superblock ≡ in_sync_superblock r.comes.list m.superblock
  superblock = r.comes.comes.superblock

  chunks : n.stored.chunks ≡ m.stored.chunks
  chunks = r.comes.comes.stored.chunks ∙ sym (c.chunks.member_count k m r.comes.at)

  starts : sector_from_super m.superblock.bitmap_offset ≡ r.are.start
  starts = subst (λ (v : Superblock). sector_from_super v.bitmap_offset ≡ r.are.start) superblock (starts_at n.superblock r.are.start r.are.starts)

  module _ (d : Disk) (was : slice_get old.disks k ≡ Some d) where
    storable : IsStorable n d.content
    storable = can_store k r.role copied lost old c n r.comes d was

    -- the bitmap
    bitmap_room : 512 * (r.are.start + width) ≤ length d.content
    bitmap_room = fits_on (bitmap_area n.superblock width).start r.are.start width (length d.content) r.are.starts (storable.placed.bitmap storable.has).within.to

    beside_bitmap : (at l : ℕ) → IsBesideMarks m at l → IsBesideArea r.are.start width at l
    beside_bitmap at l b =
        subst (λ (x : ℕ). IsBesideArea r.are.start (bitmap_sectors x) at l) (sym chunks)
        (subst (λ (x : ℕ). IsBesideArea x (bitmap_sectors m.stored.chunks) at l) starts b.bitmap)

    some_width : 0 < width
    some_width = let some = div_ceil_times (256 + div_ceil n.stored.chunks 8) 512 (omega arith) in omega (arith, some.0)

    runs_aside : (runs : ℕ) → runs ≤ runs_of width → AreAside m (length d.content) (bitmap_runs r.are.start r.are.header n.stored width runs)
    runs_aside zero few = tt
    runs_aside (suc i) few =
        let long = length-bitmap_run r.are.start r.are.header n.stored width i in
        let inside : 1 + 128 * i < width = omega arith in
        rw (runs_from r.are.start r.are.header n.stored width (suc i) i (omega arith)) (
          record { start = r.are.start; sectors = width; from = omega arith; to = omega (arith, long); room = bitmap_room; beside = beside_bitmap },
          runs_aside i (omega arith),
        )

    bitmap_aside : AreAside m (length d.content) (bitmap_writes r.are.start r.are.header n.stored width)
    bitmap_aside =
        let long = length-bitmap_sector r.are.header n.stored 0 in
        let some = some_width in
        both_aside m (length d.content) (bitmap_runs r.are.start r.are.header n.stored width (runs_of width)) (bitmap_write r.are.start r.are.header n.stored 0 ∷ []) (runs_aside (runs_of width) (omega arith))
        (record { start = r.are.start; sectors = width; from = omega arith; to = omega (arith, long); room = bitmap_room; beside = beside_bitmap }, tt)

    -- the log
    log_aside : AreAside m (length d.content) (log_writes n.superblock n.bad)
    log_aside = by_log (has_bad_block_log n.superblock) refl
      where
        by_log : (b : _) → has_bad_block_log n.superblock ≡ b → AreAside m (length d.content) (log_writes n.superblock n.bad)
        by_log false none = subst (λ b. AreAside m (length d.content) (if b then record { sector = sector_from_super n.superblock.bblog_offset; bytes = log_bytes n.bad (log_room n.superblock) } ∷ [] else [])) (sym none) tt
        by_log true there =
            let own = n.superblock in
            let placed = storable.placed.log there in
            let at = sector_at_is (log_area own).start placed.within.from in
            let long = log_long n storable.room there in
            let named : has_bad_block_log m.superblock ≡ true = subst (λ (v : Superblock). has_bad_block_log v ≡ true) superblock there in
            subst (λ b. AreAside m (length d.content) (if b then record { sector = sector_from_super own.bblog_offset; bytes = log_bytes n.bad (log_room own) } ∷ [] else [])) (sym there) (
              record {
                start = sector_from_super own.bblog_offset;
                sectors = own.bblog_size;
                from = omega arith;
                to = omega (arith, long);
                room = fits_on (log_area own).start (sector_from_super own.bblog_offset) own.bblog_size (length d.content) (sym at) placed.within.to;
                beside = λ i l b. subst (λ (v : Superblock). IsBesideArea (sector_from_super v.bblog_offset) v.bblog_size i l) (sym superblock) (b.log named);
              },
              tt,
            )

    abbrev first : List Write
    first = bitmap_writes r.are.start r.are.header n.stored width ++ log_writes n.superblock n.bad

    first_aside : AreAside m (length d.content) first
    first_aside = both_aside m (length d.content) (bitmap_writes r.are.start r.are.header n.stored width) (log_writes n.superblock n.bad) bitmap_aside log_aside

    -- what stands on the device then, and what a crash left
    module _ (e : Disk) (is : slice_get new.disks k ≡ Some e) (more : (r.disks.change d e was is).0.rest ≢ []) where
      abbrev fails : FailsInWrites of_disks r.writes d e
      fails = (r.disks.change d e was is).0

      abbrev last : Write
      last = write_of (enrolled old.array k n r.role).shared n

      order : first ++ last ∷ [] ≡ fails.done ++ fails.tried ∷ fails.rest
      order = append_assoc (bitmap_writes r.are.start r.are.header n.stored width) (log_writes n.superblock n.bad) (last ∷ []) ∙ sym r.are.are ∙ fails.order

      any_aside : (left : List ℕ) → IsAnyIn fails.tried (after d.content fails.done) left → IsSameBesideMarks m d.content left
      any_aside left any = fails_aside m first last fails.done fails.tried fails.rest d.content left first_aside order more any

      left_aside : (left : List ℕ) → IsCutShort d.content fails.done left ⊎ IsAnyIn fails.tried (after d.content fails.done) left → IsSameBesideMarks m d.content left
      left_aside left (inl cut) = cut_aside m first last fails.done fails.tried fails.rest d.content left first_aside order more cut
      left_aside left (inr any) = any_aside left any

  -- ---- the event
  may_rebuild : MayEnrolSectors k copied lost old → MayRebuild k old.array
  may_rebuild may = record {
    idle = record { running = r.may.running; none = may.idle };
    member = m;
    at = r.comes.at;
    rebuilt = subst (λ (x : MemberView). is_rebuilt x.state ≡ true) (got_same old.array.members k may.member m may.at r.comes.at) (recovers_rebuilt may.member.state may.recovering);
  }

  -- of the device that was, and of the one that is
  at_both : (f : FailsAtMarks r) (Related : Disk → Disk → Type 0) → Related f.disk f.left → AtDevice k old.disks new.disks Related
  at_both f Related related x y before now =
      let first : x ≡ f.disk = got_same old.disks k x f.disk before f.is in
      let second : y ≡ f.left = got_same new.disks k y f.left now f.left_is in
      rw (first, second) related

  changed_alone : FailsAtMarks r → IsChangedAlone k (IsSameBesideMarks m) old.disks new.disks
  changed_alone f =
      let fails = (r.disks.change f.disk f.left f.is f.left_is).0 in
      record {
        as_many = r.disks.as_many;
        others = λ j apart x y before after.
            let same : y ≡ x = same_Some y x (sym after ∙ r.disks.others j apart ∙ before) in
            subst (λ (z : Disk). StaysHonest x z × IsLeftAlone x z) (sym same)
            (stays_same x, (refl, λ _. leaves_none x.crashes (λ left. left ≡ x.content)));
        stays = at_both f StaysHonest (stays_grown f.disk f.left (λ f. f.writes ≡ true) fails.kept.honest_kept fails.kept.counted fails.kept.grown);
        size = at_both f (λ x y. length y.content ≡ length x.content) fails.kept.size;
        changed = at_both f (λ x y. x.honest ≡ true → IsSameBesideMarks m x.content y.content)
            (λ honest. any_aside f.disk f.is f.left f.left_is f.more f.left.content (fails.outside honest));
        within = at_both f (λ x y. x.honest ≡ true → LeavesOn (IsSameBesideMarks m x.content) x y)
            (λ honest. leaves_less f.disk.crashes f.left.crashes (λ left. IsCutShort f.disk.content fails.done left ⊎ IsAnyIn fails.tried (after f.disk.content fails.done) left)
            (IsSameBesideMarks m f.disk.content) (left_aside f.disk f.is f.left f.left_is f.more) (fails.within honest));
      }

  pub prepares : MayEnrolSectors k copied lost old → FailsAtMarks r → Prepares k old new
  unfolding may_rebuild
  prepares may f = record { may = may_rebuild may; array = r.array; disks = changed_alone f }

  -- ---- which write it was that failed
  pub fails_somewhere : FailsAtMarks r ⊎ FailsAtSuper r
  fails_somewhere =
      let low = slice_get_within old.array.members k m r.comes.at in
      let as_many = c.fits.as_many in
      let many = r.disks.as_many in
      let d = got_within old.disks k (omega arith) in
      let e = got_within new.disks k (omega arith) in
      by_rest d.0 e.0 d.1 e.1 (r.disks.change d.0 e.0 d.1 e.1).0.rest refl
    where
      by_rest : (d e : Disk) (was : slice_get old.disks k ≡ Some d) (is : slice_get new.disks k ≡ Some e) (rest : List Write) → (r.disks.change d e was is).0.rest ≡ rest → FailsAtMarks r ⊎ FailsAtSuper r
      by_rest d e was is [] none = inr (record { disk = d; is = was; left = e; left_is = is; last = none })
      by_rest d e was is (w ∷ ws) some = inl (record { disk = d; is = was; left = e; left_is = is; more = λ none. not_empty [] w ws (sym some ∙ none) })
