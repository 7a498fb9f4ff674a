-- The device of a member that was read, beside what is kept of it.
use Rattle.std.proofs.Common.{◌≡◌, ℕ, ◌*◌, ◌/◌, ◌<◌, ◌≤◌, true, not, ◌==◌, bit_and, pos, if◌then◌else◌, nat_lt, List, Some, refl, sym, ap, ◌∙◌, subst, arith, ◌&&◌}
use Rattle.md_kept_members.specs.OwnFields.{kept_superblock}
use Rattle.std.specs.Int.{div_ceil}
use Rattle.std.specs.Ordering.{int_eq}
use Rattle.std.proofs.lemmas.Grind.{div_ceil_times}
use Rattle.md_super.specs.declared.superblock.Superblock.{Superblock}
use Rattle.md_super.specs.Faults.{NoSuperFault}
use Rattle.md_bitmap.specs.Sound.{IsChunkSize, chunk_count}
use Rattle.md_bitmap.proofs.Limits.{div-lt-div_ceil, div_ceil-sectors, not_above}
use Rattle.md_members.specs.declared.info.MemberInfo.{MemberInfo}
use Rattle.md_members.specs.Areas.{BitmapIsPlaced, AreAreasPlaced, bitmap_sectors}
use Rattle.md_members.specs.Reading.{BitmapStartsAt, chunks_of}
use Rattle.md_members.specs.Members as members
use Rattle.md_members.specs.Members.{reads_log}
use Rattle.md_members.specs.Members.{IsAccepted, sectors_of_device}
use Rattle.md_assembly.specs.States.{is_recorded, state_of}
use Rattle.md_model.specs.Devices.{is_accepted, Super}
use Rattle.md_kept_members.specs.View.{MemberView}
use Rattle.md_kept_members.specs.Kept.{IsKept, known_offset}
use Rattle.md_kept_members.specs.OnDevices.Storing.{sector_from_super}
use Rattle.md_state.specs.View.{ArrayView}
use Rattle.md_array.specs.ReadAsKept.{HasOwnSuper, HasWidth, chunk_size_on}
use Rattle.md_array.specs.Worlds.{block_on, is_listed, stored_of, super_in, super_of}
use Rattle.md_array.proofs.Openings.OwnFields.{state_same, super_same}
use Rattle.md_array.proofs.Worlds.PartsApart.{HasParts}
use Rattle.md_array.proofs.Worlds.Listed.{listed_kept_of, same_log, listed_at_offset}
use Rattle.md_array.proofs.Worlds.Member.{Fits, fits_there}
use Rattle.md_array.proofs.Worlds.Outside.{starts_at}
use Rattle.md_array.proofs.Worlds.Read.{HasRead, header_there, read_of}
use Rattle.md_array.proofs.Worlds.Supers.{block_spells, device_super}

-- a member as it was read of a device that does what it answers, and as it is kept
pub record IsReadMember (a : ArrayView) (m : MemberView) (info : MemberInfo) (content : List ℕ) : Type 0 where
  pub read : members.IsReadMember content true info
  pub kept : IsKept a.shared.events a.events_cleared info (state_of a.shared info.superblock) m
  pub uuid : info.superblock.set_uuid ≡ a.shared.set_uuid
  pub raid_disks : info.superblock.raid_disks ≡ a.shared.raid_disks
  pub size : info.superblock.size ≡ a.shared.size
  pub array_size : a.chunks.size ≡ a.shared.size
  pub width : a.chunks.sectors ≡ m.header.chunksize / 512
  pub count : a.marks.chunks ≡ m.stored.chunks
  pub fresh : info.superblock.events ≤ a.shared.events

-- as many chunks by the array's sectors as the marks have
chunks_past : (size width bytes count c : ℕ) → IsChunkSize bytes → width ≡ bytes / 512 → count ≡ chunk_count size bytes → size ≤ c * width → count ≤ c
chunks_past size width bytes count c sound w n past =
    let least = sound.least in
    let positive : 0 < width = omega arith in
    let same : div_ceil size width ≡ chunk_count size bytes = ap (div_ceil size) w ∙ div_ceil-sectors size bytes sound in
    let bounds = div_ceil_times size width positive in
    let fewer : div_ceil size width ≤ c = not_above size width (div_ceil size width) c bounds.1 past in
    omega arith

pub chunk_within : (size width bytes count s : ℕ) → IsChunkSize bytes → width ≡ bytes / 512 → count ≡ chunk_count size bytes → s < size → s / width < count
chunk_within size width bytes count s sound w n below =
    let least = sound.least in
    let positive : 0 < width = omega arith in
    let same : div_ceil size width ≡ chunk_count size bytes = ap (div_ceil size) w ∙ div_ceil-sectors size bytes sound in
    let low = div-lt-div_ceil size width s positive below in
    omega arith

module _ (a : ArrayView) (m : MemberView) (info : MemberInfo) (content : List ℕ) (o : IsReadMember a m info content) where
  abbrev own : Superblock
  own = m.superblock

  abbrev offset : ℕ
  offset = known_offset a.events_cleared (state_of a.shared info.superblock) info.superblock

  abbrev start : ℕ
  start = sector_from_super own.bitmap_offset

  abbrev sectors : ℕ
  sectors = bitmap_sectors m.stored.chunks

  pub reads : HasRead content own m.header info.marks
  reads = read_of content info offset own m.header o.read o.kept.superblock o.kept.header

  pub starts : BitmapStartsAt own start
  starts = subst (BitmapStartsAt own) (sym (starts_at own reads.bitmap.start reads.bitmap.at)) reads.bitmap.at

  chunks : m.stored.chunks ≡ chunks_of own m.header
  chunks = o.kept.chunks ∙ ap (λ (v : Superblock). chunk_count v.size m.header.chunksize) (sym o.kept.superblock)

  pub placed : AreAreasPlaced (sectors_of_device content) own sectors
  placed = subst (λ n. AreAreasPlaced (sectors_of_device content) own (bitmap_sectors n)) (sym chunks) reads.bitmap.placed

  pub bitmap_placed : BitmapIsPlaced (sectors_of_device content) own sectors
  bitmap_placed = placed.bitmap reads.there

  pub size_is : a.chunks.size ≡ own.size
  size_is = o.array_size ∙ sym o.size ∙ ap (λ (v : Superblock). v.size) (sym o.kept.superblock)

  uuid_is : own.set_uuid ≡ a.shared.set_uuid
  uuid_is = ap (λ (v : Superblock). v.set_uuid) o.kept.superblock ∙ o.uuid

  pub not_fresher_own : own.events ≤ a.shared.events
  not_fresher_own = subst (λ (v : Superblock). v.events ≤ a.shared.events) (sym o.kept.superblock) o.fresh

  super_is : record (super_of own) { offset = info.superblock.recovery_offset } ≡ super_of info.superblock
  super_is = ap (λ (x : Super). record x { offset = info.superblock.recovery_offset }) (ap super_of o.kept.superblock ∙ super_same info.bad offset info.superblock)

  pub state_is : m.state ≡ state_of a.shared own
  state_is = o.kept.state_is ∙ sym (ap (state_of a.shared) o.kept.superblock ∙ state_same info.bad offset info.superblock a.shared)

  pub due_is : m.due ≡ (is_recorded m.state && nat_lt own.events a.shared.events)
  due_is = o.kept.due ∙ ap (λ s. is_recorded s && nat_lt info.superblock.events a.shared.events) (sym o.kept.state_is)
      ∙ ap (λ (v : Superblock). is_recorded m.state && nat_lt v.events a.shared.events) (sym o.kept.superblock)

  -- The offset that is read may be one that does not count.
  pub super_old : super_in (block_on content) ≡ Some (record (super_of own) { offset = info.superblock.recovery_offset })
  super_old = device_super content info.superblock o.read.superblock ∙ ap Some (sym super_is)

  -- ---- the chunks
  pub sound_size : IsChunkSize m.header.chunksize
  sound_size = m.header.sound.chunk_size

  pub count_is : a.marks.chunks ≡ chunk_count a.chunks.size m.header.chunksize
  count_is = o.count ∙ chunks ∙ ap (λ n. chunk_count n m.header.chunksize) (sym size_is)

  pub none_past : (c : ℕ) → a.chunks.size ≤ c * a.chunks.sectors → a.marks.chunks ≤ c
  none_past c past = chunks_past a.chunks.size a.chunks.sectors m.header.chunksize a.marks.chunks c sound_size o.width count_is past

  pub chunk_of_sector : (s : ℕ) → s < a.chunks.size → s / a.chunks.sectors < a.marks.chunks
  chunk_of_sector s below = chunk_within a.chunks.size a.chunks.sectors m.header.chunksize a.marks.chunks s sound_size o.width count_is below

  pub accepted_fits : IsAccepted own m.header → Fits a own m.header
  accepted_fits acc = record { uuid = acc.uuid ∙ uuid_is; size = acc.size ∙ sym size_is ∙ o.array_size; state = acc.state; events = acc.events }

  -- a bitmap that the world accepts before is accepted in memory
  pub accepted_before : is_accepted (stored_of a m content) ≡ true → IsAccepted own m.header
  accepted_before e =
      let f = fits_there a m info.superblock.recovery_offset content m.header super_old (header_there content own m.header start reads.bitmap.header starts) e in
      record { uuid = f.uuid ∙ sym uuid_is; size = f.size ∙ sym o.array_size ∙ size_is; state = f.state; events = f.events }

  -- ---- an opening would read what is kept
  pub parts : HasParts a m content
  parts = record { placed = placed; bitmap = bitmap_placed; size = sym size_is; count = sym o.count }

  pub sound_block : NoSuperFault (block_on content)
  sound_block = subst NoSuperFault (o.read.superblock.read.from_device refl) o.read.superblock.sound

  pub own_old : HasOwnSuper a.shared own content
  own_old v on =
      let info_on = block_spells content info.superblock o.read.superblock in
      let spelled = on.fields in
      let kept = o.kept.superblock in
      record {
        set_uuid = spelled.set_uuid ∙ sym info_on.set_uuid ∙ o.uuid;
        size = spelled.size ∙ sym info_on.size ∙ o.size;
        raid_disks = spelled.raid_disks ∙ sym info_on.raid_disks ∙ o.raid_disks;
        data_offset = spelled.data_offset ∙ sym info_on.data_offset ∙ sym (ap (λ (x : Superblock). x.data_offset) kept);
        bitmap_offset = spelled.bitmap_offset ∙ sym info_on.bitmap_offset ∙ sym (ap (λ (x : Superblock). x.bitmap_offset) kept);
        bblog_size = spelled.bblog_size ∙ sym info_on.bblog_size ∙ sym (ap (λ (x : Superblock). x.bblog_size) kept);
        bblog_offset = spelled.bblog_offset ∙ sym info_on.bblog_offset ∙ sym (ap (λ (x : Superblock). x.bblog_offset) kept);
        bblog_shift = λ reads.
            let features : v.feature_map ≡ info.superblock.feature_map = spelled.feature_map ∙ sym info_on.feature_map in
            let size : v.bblog_size ≡ info.superblock.bblog_size = spelled.bblog_size ∙ sym info_on.bblog_size in
            let offset : v.bblog_offset ≡ info.superblock.bblog_offset = spelled.bblog_offset ∙ sym info_on.bblog_offset in
            let same : reads_log v ≡ reads_log info.superblock = λ i. not (bit_and (features i) 8 == 0) && (not (size i == 0) && not (int_eq (offset i) (pos 0))) in
            spelled.bblog_shift ∙ sym info_on.bblog_shift
            ∙ sym (ap (λ b. if b then info.superblock.bblog_shift else 0) (sym same ∙ reads))
            ∙ sym (ap (λ (x : Superblock). x.bblog_shift) kept);
        listed = λ sector.
            same_log v info.superblock content sector
            (spelled.feature_map ∙ sym info_on.feature_map) (spelled.bblog_shift ∙ sym info_on.bblog_shift) (spelled.bblog_size ∙ sym info_on.bblog_size) (spelled.bblog_offset ∙ sym info_on.bblog_offset)
            ∙ sym (listed_kept_of content info.superblock info.bad info_on sound_block sector)
            ∙ sym (listed_at_offset offset (kept_superblock info) content sector)
            ∙ sym (ap (λ (x : Superblock). is_listed x content sector) kept);
        no_newer = let same : v.events ≡ info.superblock.events = spelled.events ∙ sym info_on.events in let fresh = o.fresh in omega arith;
      }

  pub chunk_size_old : chunk_size_on own content ≡ m.header.chunksize
  chunk_size_old = sym (header_there content own m.header start reads.bitmap.header starts).chunksize

  pub width_old : HasWidth a.chunks.sectors own content
  width_old = ap (λ (n : ℕ). n / 512) chunk_size_old ∙ sym o.width
