-- The device of a member, before and after the opening.
use Rattle.std.proofs.Common.{◌≡◌, ℕ, ◌+◌, ◌*◌, ◌/◌, ◌<◌, ◌≤◌, ◌⊎◌, inl, inr, true, false, List, length, drop, Some, ℤ, pos, ◌+ℤ◌, ◌≤ℤ◌, refl, sym, ap, ◌∙◌, subst, arith, lt-ltb, ◌↔◌, Bool}
use Rattle.std.proofs.lemmas.Bool.{cases_lt}
use Rattle.std.proofs.lemmas.Int.{ints}
use Rattle.std.proofs.lemmas.Option.{same_Some}
use Rattle.md_kept_members.specs.Kept.{known_offset}
use Rattle.md_kept_members.specs.OwnFields.{kept_superblock}
use Rattle.md_kept_members.specs.View.{MemberView}
use Rattle.md_kept_members.specs.Members.{NeedsMarks}
use Rattle.md_device.specs.Splice.{part, SameOutside}
use Rattle.md_super.specs.declared.superblock.Superblock.{Superblock}
use Rattle.md_bitmap.specs.declared.header.BitmapHeader.{BitmapHeader}
use Rattle.md_bitmap.specs.Marks.{is_set}
use Rattle.md_bitmap.proofs.Encoded.{length-header_bytes, reads_back}
use Rattle.md_members.specs.declared.info.MemberInfo.{MemberInfo}
use Rattle.md_members.specs.Areas.{BitmapIsPlaced, AreAreasPlaced, bitmap_area, bitmap_sectors}
use Rattle.md_members.specs.Reading.{BitmapStartsAt}
use Rattle.md_members.specs.Members.{sectors_of_device}
use Rattle.md_assembly.specs.States.{is_in_sync, state_of}
use Rattle.md_badblocks.specs.Runs.{IsBad}
use Rattle.md_model.specs.Devices.{is_accepted}
use Rattle.md_model.proofs.Cases.{by_test}
use Rattle.md_kept_members.specs.OnDevices.Storing.{sector_from_super}
use Rattle.md_state.specs.View.{Disk, ArrayView}
use Rattle.md_state.specs.DeviceChanges.{IsUnchanged}
use Rattle.md_array.specs.Consistency.{HasPlaces}
use Rattle.md_array.specs.ReadAsKept.{HasWidth, IsReadAsKept, chunk_size_on}
use Rattle.md_array.specs.Open.Marks.{StoresMarksOn}
use Rattle.md_array.specs.Worlds.{block_on, is_listed, is_listed_next, stored_of, super_in, super_of}
use Rattle.md_array.proofs.Worlds.Listed.{IsLogKept, listed_as_next, listed_kept, listed_kept_of, next_kept, listed_at_offset, next_at_offset}
use Rattle.md_array.proofs.Worlds.PartsApart.{log_beside_bitmap}
use Rattle.md_array.proofs.Worlds.ReadAsKept.{own_stays}
use Rattle.md_array.proofs.Worlds.Bad as bad
use Rattle.md_array.proofs.Worlds.Member.{Fits, accepted_there, by_need, by_accepted}
use Rattle.md_array.proofs.Worlds.Outside.{block_stays, data_stays, starts_at}
use Rattle.md_array.proofs.Worlds.ReadMember as read
use Rattle.md_array.proofs.Worlds.ReadMember.{IsReadMember}
use Rattle.md_array.proofs.Worlds.Read.{HasRead, holds_read, uuid_long, name_long}
use Rattle.md_array.proofs.Worlds.States.{in_sync_up_to_date}
use Rattle.md_array.proofs.Worlds.Supers.{block_spells}
use Rattle.md_array.proofs.Worlds.Writes.{HoldsBitmap, holds_written}
use Rattle.md_members.specs.DeviceWrites.Bitmaps.{bitmap_writes}
use Rattle.md_members.specs.DeviceWrites.Writes.{after}

-- what a member was opened from
pub record IsOpenedMember (a : ArrayView) (m : MemberView) (info : MemberInfo) (old new : Disk) : Type 0 where
  pub honest : old.honest ≡ true
  pub member : IsReadMember a m info old.content
  pub stored : NeedsMarks m → StoresMarksOn a m old new
  pub unchanged : (NeedsMarks m → ⊥) → IsUnchanged old new

-- the sectors of the area lie on the device
pub fits_on : (p : ℤ) (start n bytes : ℕ) → pos start ≡ p → (p +ℤ pos n) ≤ℤ pos (bytes / 512) → 512 * (start + n) ≤ bytes
fits_on p start n bytes e h =
    let sectors : start + n ≤ bytes / 512 = omega (arith, ints) in
    omega arith

-- the events of an array are those of a member in sync, or one more
near : (x first own : ℕ) → x ≡ first → own ≤ first → first ≤ own + 1 → (x ≡ own) ⊎ (x ≡ own + 1)
near x first own e low high = elim (cases_lt own first) [ inl less ↦ inr (omega arith) | inr more ↦ inl (omega arith) ]

module _ (a : ArrayView) (m : MemberView) (info : MemberInfo) (old new : Disk) (o : IsOpenedMember a m info old new) where
  abbrev own : Superblock
  own = m.superblock

  abbrev offset : ℕ
  offset = known_offset a.events_cleared (state_of a.shared info.superblock) info.superblock

  abbrev start : ℕ
  start = sector_from_super own.bitmap_offset

  abbrev sectors : ℕ
  sectors = bitmap_sectors m.stored.chunks

  abbrev there : IsReadMember a m info old.content
  there = o.member

  was : HasRead old.content own m.header info.marks
  was = read.reads a m info old.content there

  starts : BitmapStartsAt own start
  starts = read.starts a m info old.content there

  placed : AreAreasPlaced (sectors_of_device old.content) own sectors
  placed = read.placed a m info old.content there

  bitmap_placed : BitmapIsPlaced (sectors_of_device old.content) own sectors
  bitmap_placed = read.bitmap_placed a m info old.content there

  -- no more than the bitmap's area changes
  outside : SameOutside (512 * start) (512 * sectors) old.content new.content
  outside = by_need m
      (λ need. let s = o.stored need in
      subst (λ (at : ℕ). SameOutside (512 * at) (512 * sectors) old.content new.content) (sym (starts_at own s.start s.are.at)) s.outside)
      (λ none. subst (SameOutside (512 * start) (512 * sectors) old.content) (sym (o.unchanged none)) (record { size = refl; before = refl; after = refl }))

  pub same_block : block_on new.content ≡ block_on old.content
  same_block = block_stays (bitmap_area own sectors) start (sym starts) old.content new.content outside bitmap_placed.from_super

  pub super_new : super_in (block_on new.content) ≡ Some (record (super_of own) { offset = info.superblock.recovery_offset })
  super_new = ap super_in same_block ∙ (read.super_old a m info old.content there)

  pub places_new : HasPlaces m (block_on new.content)
  places_new =
      let fields = block_spells old.content info.superblock there.read.superblock in
      subst (HasPlaces m) (sym same_block) (record {
        data_offset = sym (ap (λ (v : Superblock). v.data_offset) there.kept.superblock ∙ fields.data_offset);
        bitmap_offset = sym (ap (λ (v : Superblock). v.bitmap_offset) there.kept.superblock ∙ fields.bitmap_offset);
        bblog_size = sym (ap (λ (v : Superblock). v.bblog_size) there.kept.superblock ∙ fields.bblog_size);
        bblog_offset = sym (ap (λ (v : Superblock). v.bblog_offset) there.kept.superblock ∙ fields.bblog_offset);
      })

  pub same_data : (s : ℕ) → s < a.chunks.size → part new.content (512 * (own.data_offset + s)) 512 ≡ part old.content (512 * (own.data_offset + s)) 512
  same_data s below =
      data_stays (bitmap_area own sectors) start (sym starts) old.content new.content outside own bitmap_placed.from_data placed.data_holds s (subst (λ n. s < n) (read.size_is a m info old.content there) below)

  log_kept : IsLogKept own old.content new.content
  log_kept = log_beside_bitmap a m old.content new.content (read.parts a m info old.content there) outside

  pub same_listed : (sector : ℕ) → is_listed own new.content sector ≡ is_listed own old.content sector
  same_listed sector = listed_kept own old.content new.content log_kept sector same_block

  -- the superblock that was read has the log's bit
  listed_as_read_next : (sector : ℕ) → is_listed own new.content sector ≡ is_listed_next info.superblock old.content sector
  listed_as_read_next sector =
      let fields = block_spells old.content info.superblock there.read.superblock in
      let sound = read.sound_block a m info old.content there in
      same_listed sector
      ∙ ap (λ (v : Superblock). is_listed v old.content sector) there.kept.superblock
      ∙ listed_at_offset offset (kept_superblock info) old.content sector
      ∙ listed_kept_of old.content info.superblock info.bad fields sound sector
      ∙ listed_as_next info.superblock info.superblock old.content fields sound refl sector

  pub listed_next_new : (sector : ℕ) → is_listed own new.content sector ≡ is_listed_next own new.content sector
  listed_next_new sector =
      listed_as_read_next sector
      ∙ sym (bad.same_listed old.content info.superblock info.bad sector there.read.bad)
      ∙ sym (next_at_offset offset (kept_superblock info) old.content sector)
      ∙ sym (ap (λ (v : Superblock). is_listed_next v old.content sector) there.kept.superblock)
      ∙ sym (next_kept own old.content new.content log_kept sector)

  pub bad_is_listed : (sector : ℕ) → is_listed own new.content sector ≡ true ↔ IsBad m.bad sector
  bad_is_listed sector =
      let is = bad.listed_as_read old.content info.superblock info.bad sector there.read.bad in
      let same = listed_as_read_next sector in
      ((λ e. subst (λ runs. IsBad runs sector) (sym there.kept.bad) (is.0 (sym same ∙ e))), (λ h. same ∙ is.1 (subst (λ runs. IsBad runs sector) there.kept.bad h)))

  -- ---- the bitmap, of a member in sync
  record HasFitting : Type 0 where
    header : BitmapHeader
    fits : Fits a own header
    chunk_size : header.chunksize ≡ m.header.chunksize
    holds : HoldsBitmap new.content start header m.stored

  fitting : is_in_sync m.state ≡ true → HasFitting
  fitting in_sync =
      by_accepted own m.header
      (λ acc. let none : NeedsMarks m → ⊥ = λ need. need.refused acc in
      let same : Some was.stored ≡ Some m.stored = sym was.stored_is ∙ there.kept.its_marks none in
      record {
        header = m.header;
        fits = (read.accepted_fits a m info old.content there) acc;
        chunk_size = refl;
        holds = subst (λ content. HoldsBitmap content start m.header m.stored) (sym (o.unchanged none))
            (subst (HoldsBitmap old.content start m.header) (same_Some was.stored m.stored same) (holds_read old.content own m.header was.stored start was.bitmap starts));
      })
      (λ refused. let s = o.stored (record { in_sync = in_sync; refused = refused }) in
      let h = s.are.header in
      let is = s.are.header_is in
      let at : s.start ≡ start = sym (starts_at own s.start s.are.at) in
      let uuid : length h.uuid ≡ 16 = ap length (is.uuid ∙ sym there.uuid) ∙ uuid_long old.content info.superblock there.read.superblock in
      let name : length h.cluster_name ≡ 64 = ap length is.cluster_name ∙ name_long old.content own m.header was.bitmap.header in
      let fits : 512 * (start + sectors) ≤ length old.content = fits_on _ start sectors (length old.content) starts bitmap_placed.within.to in
      let late : a.shared.events ≤ own.events + 1 = in_sync_up_to_date a.shared own (ap is_in_sync (sym (read.state_is a m info old.content there)) ∙ in_sync) in
      record {
        header = h;
        fits = record { uuid = is.uuid; size = is.sync_size; state = is.state; events = near h.events a.shared.events own.events is.events (read.not_fresher_own a m info old.content there) late };
        chunk_size = is.chunksize;
        holds = holds_written start h m.stored old.content new.content (length-header_bytes h uuid name) (reads_back h uuid name is.counts_fit is.settings_fit) fits
            (s.done o.honest ∙ ap (after old.content) (s.are.writes_are ∙ ap (λ (at : ℕ). bitmap_writes at h m.stored sectors) at));
      })

  pub is_accepted_new : is_in_sync m.state ≡ true → is_accepted (stored_of a m new.content) ≡ true
  is_accepted_new in_sync = let f = fitting in_sync in accepted_there a m info.superblock.recovery_offset new.content f.header super_new f.holds.header f.fits

  pub bits_new : is_in_sync m.state ≡ true → (c : ℕ) → c < a.marks.chunks → is_set (drop (512 * start + 256) new.content) c ≡ is_set m.stored.bytes c
  bits_new in_sync c low = (fitting in_sync).holds.bits c (subst (λ n. c < n) there.count low)

  -- ---- an opening would read what is kept
  pub chunk_size_new : is_in_sync m.state ≡ true → chunk_size_on own new.content ≡ m.header.chunksize
  chunk_size_new in_sync = let f = fitting in_sync in sym f.holds.header.chunksize ∙ f.chunk_size

  width_new : HasWidth a.chunks.sectors own new.content
  width_new = by_need m
      (λ need. ap (λ (n : ℕ). n / 512) (chunk_size_new need.in_sync) ∙ sym there.width)
      (λ none. ap (λ (content : List ℕ). chunk_size_on own content / 512) (o.unchanged none) ∙ (read.width_old a m info old.content there))

  pub read_new : (is_spoiled : Bool) → IsReadAsKept a m 0 is_spoiled new.content
  read_new is_spoiled = record {
    super = λ _. own_stays a.shared own old.content new.content same_block log_kept (read.own_old a m info old.content there);
    header = λ _. inl width_new;
  }

  -- all of its chunks are marked, since its bitmap was not accepted
  pub record IsAllMarked : Type 0 where
    pub all : (c : ℕ) → c < a.marks.chunks → is_set m.stored.bytes c ≡ true
    pub refused : is_accepted (stored_of a m old.content) ≡ false

  -- or its device is as it was
  pub all_or_same : IsAllMarked ⊎ (new.content ≡ old.content)
  all_or_same = by_need m
      (λ need. inl (record {
        all = λ c low. there.kept.all_marks need c ∙ lt-ltb c m.stored.chunks (subst (λ n. c < n) there.count low);
        refused = by_test (is_accepted (stored_of a m old.content)) (λ e. absurd (need.refused ((read.accepted_before a m info old.content there) e))) (λ e. e);
      }))
      (λ none. inr (o.unchanged none))
