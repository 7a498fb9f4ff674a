-- The bytes of a member's parts, at the places that the bytes of its superblock give.
use Rattle.std.specs.Prelude.{◌≡◌, ◌⊎◌, ℕ, ◌+◌, ◌-◌, ◌*◌, ◌/◌, ◌<◌, ◌≤◌, ◌&&◌, nat_le, Bool, true, false, List, length, take, drop, min, bit_and, Option, Some, None, MatchOption, ℤ, pos, ◌+ℤ◌}
use Rattle.std.specs.Int.{w32, cast_signed}
use Rattle.md_format.specs.Fields.{number_at}
use Rattle.md_bitmap.specs.Marks.{count_set}
use Rattle.md_bitmap.specs.Sectors.{bitmap_sectors}
use Rattle.md_bitmap.specs.Sound.{chunk_count}
use Rattle.md_raw_reports.specs.BitmapFields.{is_chunk_size}
use Rattle.md_raw_reports.specs.declared.raw_bitmap.CountedMarks.{CountedMarks}
use Rattle.md_raw_reports.specs.declared.raw_bitmap.RawBitmap.{RawBitmap}
use Rattle.md_raw_reports.specs.declared.raw_bitmap.RawBitmap.TheVariants.{Unplaced, Unreadable, Read}
use Rattle.md_raw_reports.specs.declared.raw_bitmap.UnreadMarks.{UnreadMarks}
use Rattle.md_device.specs.declared.fault_list.Fault.{Fault}
use Rattle.md_members.specs.Reading.{HasSuperSectors, IsRead, IsReadOf}
use Rattle.md_raw_reports.specs.declared.raw_members.fault.RawFault.{RawFault}
use Rattle.md_raw_reports.specs.declared.raw_members.fault.RawFault.TheVariants.{TooShort, NoBitmap, Region}
use Rattle.md_raw_reports.specs.declared.raw_members.read_parts.RawLog.{RawLog}

-- the sector at this offset from the superblock
abbrev pub StartsAt : ℤ → ℕ → Type 0
StartsAt offset start = pos start ≡ pos 8 +ℤ offset

-- where the superblock places its bitmap and its log
abbrev pub bitmap_offset : List ℕ → ℤ
bitmap_offset superblock = cast_signed w32 (number_at 4 96 superblock)

abbrev pub log_offset : List ℕ → ℤ
log_offset superblock = cast_signed w32 (number_at 4 188 superblock)

-- so many sectors from this one on are on the device
abbrev pub FitsAt : List ℕ → ℕ → ℕ → Type 0
FitsAt content start sectors = start + sectors ≤ length content / 512

-- no such place is
abbrev pub HasNoPlace : List ℕ → ℤ → ℕ → Type 0
HasNoPlace content offset sectors = (start : ℕ) → StartsAt offset start → FitsAt content start sectors → ⊥

-- the sector is on the device
abbrev pub IsOn : List ℕ → ℕ → Type 0
IsOn content sector = 512 * sector + 512 ≤ length content

-- ---- the superblock
-- The bytes of so many of sectors 8 to 15, from the first on, as they were read. Where these are not all, the read of all of them
-- failed. `Failed P` says that a call on the device failed that has P, here and below.
pub record ReadsFront (content : List ℕ) (honest : Bool) (Failed : (Fault → Type 0) → Type 0) (sectors : ℕ) (bytes : List ℕ) : Type 0 where
  pub long : HasSuperSectors content
  pub few : sectors ≤ 8
  pub read : IsRead content honest 8 (512 * sectors) (take (512 * sectors) bytes)
  pub failed : sectors < 8 → Failed (IsReadOf 8 4096)

-- which of them were tried, and how often a call on the device failed before and after that: all at once, and
-- where that failed the first alone
pub record TriesFront (honest : Bool) (before after sectors : ℕ) : Type 0 where
  pub counts : (sectors ≡ 8) ⊎ (sectors ≤ 1)
  pub twice : sectors ≡ 0 → honest ≡ true → before + 2 ≤ after

-- why they are not read at all
abbrev pub RefusesRawSuper : List ℕ → RawFault → Type 0
RefusesRawSuper content TooShort = length content < 512 * 16
RefusesRawSuper content fault = ⊥

-- ---- the bitmap
-- how many chunks its header says that there are
abbrev pub header_chunks : List ℕ → ℕ
header_chunks sector = chunk_count (number_at 8 40 sector) (number_at 4 52 sector)

-- whether that can be: they have a size that chunks may have, and are not too many
abbrev pub is_countable : List ℕ → Bool
is_countable sector = is_chunk_size (number_at 4 52 sector) && nat_le (header_chunks sector) 1048576

-- how many of these chunks have their marks in the first so many sectors, one or more, after a header of 256 bytes
abbrev pub chunks_in : ℕ → ℕ → ℕ
chunks_in sectors chunks = min chunks (4096 * sectors - 2048)

-- how many chunks are marked in the first so many sectors of a bitmap that starts at this sector, of which the first has these bytes
pub record AreCounted (content : List ℕ) (honest : Bool) (start : ℕ) (sector : List ℕ) (chunks sectors marked : ℕ) : Type 0 where
  pub area : List ℕ
  pub front : take 512 area ≡ sector
  pub read : IsRead content honest start (512 * sectors) area
  pub marked_is : marked ≡ count_set (drop 256 area) (chunks_in sectors chunks)

-- the marks after them were not read: the sector is past the end, or the read of it failed
pub record AreUnread (content : List ℕ) (honest : Bool) (Failed : (Fault → Type 0) → Type 0) (start chunks sectors : ℕ) (u : UnreadMarks) : Type 0 where
  pub more : sectors < bitmap_sectors chunks
  pub sector : u.sector ≡ start + sectors
  pub chunks_are : u.chunks ≡ chunks - chunks_in sectors chunks
  pub failed : IsOn content u.sector → Failed (IsReadOf u.sector 512)

abbrev pub IsRest : List ℕ → Bool → ((Fault → Type 0) → Type 0) → ℕ → ℕ → ℕ → Option UnreadMarks → Type 0
IsRest content honest Failed start chunks sectors None = sectors ≡ bitmap_sectors chunks
IsRest content honest Failed start chunks sectors (Some u) = AreUnread content honest Failed start chunks sectors u

-- the marks of so many chunks, as far as they were read
pub record CountsMarks (content : List ℕ) (honest : Bool) (Failed : (Fault → Type 0) → Type 0) (start : ℕ) (sector : List ℕ) (chunks : ℕ)
    (m : CountedMarks) : Type 0 where
  pub chunks_are : m.chunks ≡ chunks
  pub sectors : ℕ
  pub counted : AreCounted content honest start sector chunks sectors m.marked
  pub rest : IsRest content honest Failed start chunks sectors m.unread

abbrev pub HasCounts : List ℕ → Bool → ((Fault → Type 0) → Type 0) → ℕ → List ℕ → Option CountedMarks → Type 0
HasCounts content honest Failed start sector None = is_countable sector ≡ false
HasCounts content honest Failed start sector (Some m) =
    (is_countable sector ≡ true) × CountsMarks content honest Failed start sector (header_chunks sector) m

-- what was read of a bitmap that starts at this sector, which is on the device
abbrev pub ReadsBitmapAt : List ℕ → Bool → ((Fault → Type 0) → Type 0) → ℕ → RawBitmap → Type 0
ReadsBitmapAt content honest Failed start Unplaced = ⊥
ReadsBitmapAt content honest Failed start (Unreadable sector) = (sector ≡ start) × IsOn content start × Failed (IsReadOf start 512)
ReadsBitmapAt content honest Failed start (Read sector marks) =
    IsRead content honest start 512 sector × HasCounts content honest Failed start sector marks

-- The superblock tells of no bitmap.
abbrev pub HasNoBitmap : List ℕ → Type 0
HasNoBitmap superblock = bit_and (number_at 4 8 superblock) 1 ≡ 0

-- A bitmap that starts where the superblock says.
pub record ReadsPlacedBitmap (content : List ℕ) (honest : Bool) (Failed : (Fault → Type 0) → Type 0) (superblock : List ℕ) (bitmap : RawBitmap) : Type 0 where
  pub told : HasNoBitmap superblock → ⊥
  pub start : ℕ
  pub at : StartsAt (bitmap_offset superblock) start
  pub reads : ReadsBitmapAt content honest Failed start bitmap

-- what was read of the bitmap of a superblock of which so many sectors were read: nothing where the first was not
abbrev pub ReadsRawBitmap : List ℕ → Bool → ((Fault → Type 0) → Type 0) → ℕ → List ℕ → RawBitmap → Type 0
ReadsRawBitmap content honest Failed sectors superblock Unplaced = sectors ≡ 0
ReadsRawBitmap content honest Failed sectors superblock bitmap =
    (0 < sectors) × ReadsPlacedBitmap content honest Failed superblock bitmap

-- why it has no place
abbrev pub RefusesSector : List ℕ → List ℕ → RawFault → Type 0
RefusesSector content superblock NoBitmap = HasNoBitmap superblock
RefusesSector content superblock Region =
    (HasNoBitmap superblock → ⊥) × HasNoPlace content (bitmap_offset superblock) 1
RefusesSector content superblock TooShort = ⊥

-- ---- the log
-- how many sectors the superblock gives its log
abbrev pub size_of_log : List ℕ → ℕ
size_of_log superblock = number_at 2 186 superblock

-- The superblock tells of no log.
abbrev pub HasNoLog : List ℕ → Type 0
HasNoLog superblock = (size_of_log superblock ≡ 0) ⊎ (log_offset superblock ≡ pos 0)

-- the log that starts at this sector was read, or could not be
abbrev pub ReadsLogAt : List ℕ → Bool → ((Fault → Type 0) → Type 0) → List ℕ → List ℕ → ℕ → RawLog → Type 0
ReadsLogAt content honest Failed superblock bytes start log = MatchOption log.lost
    ((log.len ≡ 512 * size_of_log superblock) × IsRead content honest start log.len (take log.len bytes))
    (λ sector. (sector ≡ start) × (log.len ≡ 0) × FitsAt content start (size_of_log superblock)
    × Failed (IsReadOf start (512 * size_of_log superblock)))

-- A log of 8 sectors at most that starts where the superblock says.
pub record ReadsPlacedLog (content : List ℕ) (honest : Bool) (Failed : (Fault → Type 0) → Type 0) (superblock bytes : List ℕ) (log : RawLog) : Type 0 where
  pub told : HasNoLog superblock → ⊥
  pub few : size_of_log superblock ≤ 8
  pub start : ℕ
  pub at : StartsAt (log_offset superblock) start
  pub reads : ReadsLogAt content honest Failed superblock bytes start log

-- nothing was to be read
abbrev pub IsEmptyLog : RawLog → Type 0
IsEmptyLog log = (log.len ≡ 0) × (log.lost ≡ None)

-- what was read of the log that a superblock places, into the front of these bytes
abbrev pub ReadsLogOf : List ℕ → Bool → ((Fault → Type 0) → Type 0) → List ℕ → List ℕ → RawLog → Type 0
ReadsLogOf content honest Failed superblock bytes log =
    (HasNoLog superblock × IsEmptyLog log) ⊎ ReadsPlacedLog content honest Failed superblock bytes log

-- of a superblock of which so many sectors were read: nothing where the first was not
abbrev pub ReadsRawLog : List ℕ → Bool → ((Fault → Type 0) → Type 0) → ℕ → List ℕ → List ℕ → RawLog → Type 0
ReadsRawLog content honest Failed sectors superblock bytes log =
    ((sectors ≡ 0) × IsEmptyLog log) ⊎ ((0 < sectors) × ReadsLogOf content honest Failed superblock bytes log)

-- why it has no place
abbrev pub RefusesArea : List ℕ → List ℕ → RawFault → Type 0
RefusesArea content superblock NoBitmap = ⊥
RefusesArea content superblock Region =
    (HasNoLog superblock → ⊥)
    × ((8 < size_of_log superblock) ⊎ HasNoPlace content (log_offset superblock) (size_of_log superblock))
RefusesArea content superblock TooShort = ⊥

-- ---- parts
-- A refusal for what the superblock says, of which a sector was read.
pub record RefusesPlace (Refuses : List ℕ → RawFault → Type 0) (content : List ℕ) (honest : Bool) (Failed : (Fault → Type 0) → Type 0) (fault : RawFault) : Type 0 where
  pub sectors : ℕ
  pub superblock : List ℕ
  pub some : 0 < sectors
  pub front : ReadsFront content honest Failed sectors superblock
  pub refused : Refuses superblock fault

-- the part is not read: the superblock's bytes can't be, or this comes of what they say
abbrev pub RefusesPart : (List ℕ → RawFault → Type 0) → List ℕ → Bool → ((Fault → Type 0) → Type 0) → RawFault → Type 0
RefusesPart Refuses content honest Failed fault =
    RefusesRawSuper content fault ⊎ RefusesPlace Refuses content honest Failed fault

abbrev pub RefusesRawBitmap : List ℕ → Bool → ((Fault → Type 0) → Type 0) → RawFault → Type 0
RefusesRawBitmap content honest Failed fault = RefusesPart (RefusesSector content) content honest Failed fault

abbrev pub RefusesRawLog : List ℕ → Bool → ((Fault → Type 0) → Type 0) → RawFault → Type 0
RefusesRawLog content honest Failed fault = RefusesPart (RefusesArea content) content honest Failed fault
