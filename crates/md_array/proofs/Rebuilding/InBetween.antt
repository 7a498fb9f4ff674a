-- The mirror in the midst of an enrolment: marks and log are stored, and the superblock is not. No caller sees it.
use Rattle.std.proofs.Common.{Bool, ◌≡◌, ◌+◌, ℕ, ◌*◌, ◌<◌, ◌≤◌, inl, inr, true, List, length, length-set, set, slice_get, Option, Some, refl, sym, ap, ◌∙◌, subst, arith}
use Rattle.std.specs.Prelude.{⊤}
use Rattle.std.proofs.lemmas.Option.{same_Some, slice_get_within}
use Rattle.md_assembly.specs.States.{is_recovering}
use Rattle.md_assembly.specs.declared.state.MemberState.TheVariants.{InSync, Recovering, Stale, Spare, Faulty}
use Rattle.md_assembly.specs.declared.state.MemberState.{MemberState}
use Rattle.md_assembly.proofs.Indices.{got_same, got_within}
use Rattle.md_badblocks.specs.Log.{log_bytes}
use Rattle.md_device.specs.Device.{written}
use Rattle.md_device.specs.Splice.{SameOutside, part}
use Rattle.md_device.proofs.Leaving.{leaves_none}
use Rattle.md_device.proofs.Splices.{part_after, part_before, spliced_outside}
use Rattle.md_kept_members.specs.Enrolling.{HasRoomFor, in_sync_superblock, log_room}
use Rattle.md_kept_members.specs.View.{MemberView}
use Rattle.md_members.specs.Areas.{bitmap_sectors}
use Rattle.md_kept_members.specs.OnDevices.Storing.{IsStorable, log_writes, sector_from_super}
use Rattle.md_kept_members.specs.OnDevices.Superblocks.{write_of}
use Rattle.md_state.specs.DeviceChanges.{IsLeftAlone, LeavesOn, StaysHonest}
use Rattle.md_state.specs.Missing.{is_rebuilt}
use Rattle.md_state.specs.View.{ArrayView, Disk, MirrorView}
use Rattle.md_super.specs.declared.superblock.Superblock.{Superblock}
use Rattle.md_super.specs.Log.{has_bad_block_log}
use Rattle.md_members.specs.DeviceWrites.Bitmaps.{bitmap_writes}
use Rattle.md_members.specs.DeviceWrites.Writes.{after}
use Rattle.md_members.proofs.DeviceWriteLemmas.Frames.{outside_around}
use Rattle.md_members.proofs.DeviceWriteLemmas.Runs.{after-append}
use Rattle.md_array.specs.Consistency.{IsConsistent}
use Rattle.md_array.specs.Steps.Enrol.{Enrols, MayEnrolSectors}
use Rattle.md_array.specs.Steps.EnrolEvents.{Prepares, first_writes, prepared, with_writes}
use Rattle.md_array.specs.Events.{IsBesideArea, IsBesideMarks, IsChangedAlone, IsSameBesideMarks}
use Rattle.md_array.specs.Steps.Fill.{MayRebuild}
use Rattle.md_array.proofs.General.Indices.{at_set_same, got_other}
use Rattle.md_array.proofs.Rebuilding.EnrolledArray as array
use Rattle.md_array.proofs.Rebuilding.MemberStored as stored
use Rattle.md_array.proofs.Worlds.Outside.{starts_at}
use Rattle.md_array.proofs.Worlds.Writes.{HoldsBitmap}
use Rattle.md_array.proofs.StepLemmas.OneWrite.{at_device}
use Rattle.md_device.proofs.Failing.{fails_none}
use Rattle.md_state.proofs.Stays.{stays_same}

-- bytes that lie beside an area are as they were where that alone was written
pub beside_area : (start sectors : ℕ) (old new : List ℕ) → SameOutside (512 * start) (512 * sectors) old new → (at n : ℕ) → IsBesideArea start sectors at n → part new at n ≡ part old at n
beside_area start sectors old new same at n (inl before) = part_before same at n before
beside_area start sectors old new same at n (inr behind) = part_after same at n (omega arith)

pub recovers_rebuilt : (s : MemberState) → is_recovering s ≡ true → is_rebuilt s ≡ true
recovers_rebuilt (Recovering role) on = refl
recovers_rebuilt (InSync role) on = absurd cc
recovers_rebuilt (Stale role) on = absurd cc
recovers_rebuilt Spare on = absurd cc
recovers_rebuilt Faulty on = absurd cc

-- one device has another content, and no crash is counted
pub set_alone : (k : ℕ) (disks : List Disk) (d : Disk) → slice_get disks k ≡ Some d → (content : List ℕ) (Related : List ℕ → List ℕ → Type 0) → length content ≡ length d.content
    → (d.honest ≡ true → Related d.content content) → IsChangedAlone k Related disks (set disks k (record d { content = content }))
set_alone k disks d was content Related long related =
    let then : Disk = record d { content = content } in
    record {
      as_many = length-set disks k then;
      others = λ j apart x y before after.
          let same : y ≡ x = same_Some y x (sym after ∙ got_other disks k j then apart ∙ before) in
          subst (λ (z : Disk). StaysHonest x z × IsLeftAlone x z) (sym same)
          (stays_same x, (refl, λ _. leaves_none x.crashes (λ left. left ≡ x.content)));
      stays = at_device disks k d then StaysHonest was (record { honest = refl; counted = omega arith; grown = fails_none d.faults (λ _. ⊤) });
      size = at_device disks k d then (λ x y. length y.content ≡ length x.content) was long;
      changed = at_device disks k d then (λ x y. x.honest ≡ true → Related x.content y.content) was related;
      within = at_device disks k d then (λ x y. x.honest ≡ true → LeavesOn (Related x.content) x y) was (λ _. leaves_none d.crashes (Related d.content));
    }

module _ (k : ℕ) (copied lost : ℕ → Bool) (old new : MirrorView) (c : IsConsistent old) (r : Enrols k copied lost old new) where
  abbrev pub a : ArrayView
  a = old.array

  abbrev pub m : MemberView
  m = r.comes.member

  abbrev pub n : MemberView
  n = r.member

  pub superblock : n.superblock ≡ in_sync_superblock r.comes.list m.superblock
  superblock = r.comes.comes.superblock

  pub chunks : n.stored.chunks ≡ m.stored.chunks
  chunks = r.comes.comes.stored.chunks ∙ sym (c.chunks.member_count k m r.comes.at)

  room : HasRoomFor n.superblock n.bad
  room = subst (HasRoomFor n.superblock) (sym r.comes.comes.bad) (subst (λ (v : Superblock). HasRoomFor v r.comes.list) (sym superblock) r.comes.room)

  pub starts : sector_from_super m.superblock.bitmap_offset ≡ r.are.start
  starts = subst (λ (v : Superblock). sector_from_super v.bitmap_offset ≡ r.are.start) superblock (starts_at n.superblock r.are.start r.are.starts)

  module _ (d : Disk) (was : slice_get old.disks k ≡ Some d) where
    storable : IsStorable n d.content
    storable = array.storable old c k m n r.comes.list d r.comes.at superblock r.comes.comes.stored.chunks room was

    abbrev pub content_then : List ℕ
    content_then = after d.content (first_writes r)

    abbrev pub marked : List ℕ
    marked = after d.content (bitmap_writes r.are.start r.are.header n.stored (bitmap_sectors n.stored.chunks))

    abbrev listed : List ℕ
    listed = after marked (log_writes n.superblock n.bad)

    pub in_two : content_then ≡ listed
    in_two = after-append d.content (bitmap_writes r.are.start r.are.header n.stored (bitmap_sectors n.stored.chunks)) (log_writes n.superblock n.bad)

    listed_long : length listed ≡ length d.content
    listed_long = stored.listed_long new.array n r.are.start r.are.starts r.are.header r.are.header_is new.array.shared d.content storable r.readable

    pub then_long : length content_then ≡ length d.content
    then_long = ap (λ (xs : List ℕ). length xs) in_two ∙ listed_long

    pub then_holds : HoldsBitmap content_then (sector_from_super m.superblock.bitmap_offset) r.are.header n.stored
    then_holds =
        subst (λ (start : ℕ). HoldsBitmap content_then start r.are.header n.stored) (sym starts)
        (subst (λ (xs : List ℕ). HoldsBitmap xs r.are.start r.are.header n.stored) (sym in_two)
        (stored.listed_holds new.array n r.are.start r.are.starts r.are.header r.are.header_is new.array.shared d.content storable r.readable))

    -- ---- the bitmap, and then the log
    pub room_marked : 512 * (r.are.start + bitmap_sectors n.stored.chunks) ≤ length d.content
    room_marked = stored.bitmap_room new.array n r.are.start r.are.starts r.are.header r.are.header_is new.array.shared d.content storable r.readable

    pub marks_outside : SameOutside (512 * r.are.start) (512 * bitmap_sectors n.stored.chunks) d.content marked
    marks_outside =
        let outside = (stored.marks_stored new.array n r.are.start r.are.starts r.are.header r.are.header_is new.array.shared d.content storable r.readable).outside in
        outside_around outside (512 * r.are.start) (512 * bitmap_sectors n.stored.chunks) (omega arith) (omega arith)

    pub log_width : has_bad_block_log n.superblock ≡ true → length (log_bytes n.bad (log_room n.superblock)) ≡ 512 * n.superblock.bblog_size
    log_width there = stored.log_long n room there

    -- where the log alone was written since
    module _ (left : List ℕ) (same : SameOutside (512 * sector_from_super n.superblock.bblog_offset) (512 * n.superblock.bblog_size) marked left) (there : has_bad_block_log n.superblock ≡ true) where
      pub log_there : (at l : ℕ) → IsBesideMarks m at l → part left at l ≡ part marked at l
      log_there at l b =
          let named : has_bad_block_log m.superblock ≡ true = subst (λ (v : Superblock). has_bad_block_log v ≡ true) superblock there in
          let lies : IsBesideArea (sector_from_super n.superblock.bblog_offset) n.superblock.bblog_size at l =
          subst (λ (v : Superblock). IsBesideArea (sector_from_super v.bblog_offset) v.bblog_size at l) (sym superblock) (b.log named) in
          beside_area (sector_from_super n.superblock.bblog_offset) n.superblock.bblog_size marked left same at l lies

    -- ---- beside its bitmap and its log nothing changes
    pub beside_bitmap : (at l : ℕ) → IsBesideMarks m at l → part marked at l ≡ part d.content at l
    beside_bitmap at l b =
        let there : IsBesideArea r.are.start (bitmap_sectors n.stored.chunks) at l =
        subst (λ (x : ℕ). IsBesideArea r.are.start (bitmap_sectors x) at l) (sym chunks) (subst (λ (x : ℕ). IsBesideArea x (bitmap_sectors m.stored.chunks) at l) starts b.bitmap) in
        beside_area r.are.start (bitmap_sectors n.stored.chunks) d.content marked marks_outside at l there

    beside_log : (at l : ℕ) → IsBesideMarks m at l → part listed at l ≡ part marked at l
    beside_log at l b = stored.by_log new.array n r.are.start r.are.starts r.are.header r.are.header_is new.array.shared d.content storable r.readable
        (λ there. log_there listed (stored.listed_outside new.array n r.are.start r.are.starts r.are.header r.are.header_is new.array.shared d.content storable r.readable there) there at l b)
        (λ none. ap (λ (xs : List ℕ). part xs at l) (stored.unlisted new.array n r.are.start r.are.starts r.are.header r.are.header_is new.array.shared d.content storable r.readable none))

    pub then_beside : IsSameBesideMarks m d.content content_then
    then_beside = record {
      size = then_long;
      beside = λ at l b. ap (λ (xs : List ℕ). part xs at l) in_two ∙ beside_log at l b ∙ beside_bitmap at l b;
    }

    -- the superblock's write
    pub last_outside : SameOutside (512 * 8) 4096 content_then (written content_then 8 (write_of new.array.shared n).bytes)
    last_outside =
        let long = (c.fits.each k d m was r.comes.at).long in
        let same = then_long in
        let size = r.readable.size in
        spliced_outside content_then (512 * 8) (write_of new.array.shared n).bytes 4096 (sym r.readable.size) (omega arith)

    -- ---- the mirror
    abbrev pub then_disk : Disk
    then_disk = record d { content = content_then }

    low : k < length old.disks
    low = slice_get_within old.disks k d was

    pub prepared_is : prepared r ≡ record old { disks = set old.disks k then_disk }
    prepared_is = ap (λ (o : Option Disk). record old { disks = with_writes old.disks k (first_writes r) o }) was

    pub then_at : slice_get (set old.disks k then_disk) k ≡ Some then_disk
    then_at = at_set_same old.disks k then_disk low

    pub changes_then : IsChangedAlone k (IsSameBesideMarks m) old.disks (set old.disks k then_disk)
    changes_then = set_alone k old.disks d was content_then (IsSameBesideMarks m) then_long (λ _. then_beside)

  abbrev pub may_rebuild_it : MayEnrolSectors k copied lost old → MayRebuild k a
  may_rebuild_it may = record {
    idle = record { running = r.may.running; none = may.idle };
    member = m;
    at = r.comes.at;
    rebuilt = subst (λ (x : MemberView). is_rebuilt x.state ≡ true) (got_same a.members k may.member m may.at r.comes.at) (recovers_rebuilt may.member.state may.recovering);
  }

  pub prepares : MayEnrolSectors k copied lost old → Prepares k old (prepared r)
  prepares may =
      let low = slice_get_within a.members k m r.comes.at in
      let many = c.fits.as_many in
      let d = got_within old.disks k (omega arith) in
      subst (Prepares k old) (sym (prepared_is d.0 d.1)) (record { may = may_rebuild_it may; array = refl; disks = changes_then d.0 d.1 })
