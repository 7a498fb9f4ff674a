-- What reading a member of a device gives. An honest device gives its content; of another one it is only known that some
-- bytes were read.
use Rattle.std.specs.Prelude.{◌≡◌, ◌≢◌, ◌⊎◌, ℕ, ◌+◌, ◌*◌, ◌<◌, ◌≤◌, Bool, true, List, length, drop, Result, Err, MatchResult, pos, ◌+ℤ◌}
use Rattle.std.specs.List.{All}
use Rattle.md_device.specs.declared.device.Device.{Ghosts}
use Rattle.md_device.specs.declared.fault_list.Fault.{Fault}
use Rattle.md_device.specs.Device.{held}
use Rattle.md_device.specs.Failing.{SomeNewFault, failed_read}
use Rattle.md_super.specs.declared.superblock.Superblock.{Superblock}
use Rattle.md_super.specs.declared.fault.SuperFault.{SuperFault}
use Rattle.md_super.specs.declared.fault.SuperFault.TheVariants as super_fault
use Rattle.md_super.specs.Format.{IsSuper}
use Rattle.md_super.specs.Faults.{NoSuperFault, IsFirstSuperFault}
use Rattle.md_format.specs.Fields.{bytes_at}
use Rattle.md_format.specs.FirstFault.{IsFirst}
use Rattle.md_bitmap.specs.declared.header.BitmapHeader.{BitmapHeader}
use Rattle.md_bitmap.specs.declared.fault.BitmapFault.{BitmapFault}
use Rattle.md_bitmap.specs.declared.fault.BitmapFault.TheVariants.{TooManyChunks}
use Rattle.md_bitmap.specs.Header.{IsHeader}
use Rattle.md_bitmap.specs.Faults.{BitmapFaultStands, bitmap_fault_place, NoneStands}
use Rattle.md_bitmap.specs.Sound.{chunk_count}
use Rattle.md_bitmap.specs.Marks.{Bitmap}
use Rattle.md_members.specs.declared.fault.MemberFault.{MemberFault}
use Rattle.md_members.specs.declared.fault.MemberFault.TheVariants.{TooShort, ReadFault, Super, Region, Bitmap as BitmapRefused, Log, NoMemory}
use Rattle.md_members.specs.Areas.{AreAreasPlaced, bitmap_sectors}
use Rattle.md_badblocks.specs.declared.run.Run.{Run}
use Rattle.md_badblocks.specs.declared.log.LogFault.TheVariants as log_fault
use Rattle.md_badblocks.specs.Log.{IsReadAs}

-- n bytes that were read at a sector: those of the content, where the device is honest
pub record IsRead (content : List ℕ) (honest : Bool) (sector n : ℕ) (bytes : List ℕ) : Type 0 where
  pub within : 512 * sector + n ≤ length content
  pub size : length bytes ≡ n
  pub are_bytes : All (λ byte. byte < 256) bytes
  pub from_device : honest ≡ true → bytes ≡ held content sector n

-- A call of the device that has P failed in between, and is counted.
abbrev pub CallFails : {D : Type 0} → Ghosts D → D → D → (Fault → Type 0) → Type 0
CallFails g old new P = (g.failures old < g.failures new) × SomeNewFault (g.faults old) (g.faults new) P

-- the read of all of these bytes, by one call
abbrev pub IsReadOf : ℕ → ℕ → Fault → Type 0
IsReadOf sector n f = f ≡ failed_read sector n

-- this holds, unless the answer is that a read failed: no read is tried again
abbrev pub UnlessReadFault : {T : Type 0} → Result T MemberFault → Type 0 → Type 0
UnlessReadFault (Err ReadFault) Holds = Unit {0}
UnlessReadFault _ Holds = Holds

-- A device has the sectors up to the superblock's end.
abbrev pub HasSuperSectors : List ℕ → Type 0
HasSuperSectors content = 512 * 16 ≤ length content

-- the superblock in sectors 8 to 15 that were read, in which no fault stands
pub record ReadsSuper (content : List ℕ) (honest : Bool) (v : Superblock) : Type 0 where
  pub bytes : List ℕ
  pub read : IsRead content honest 8 4096 bytes
  pub fields : IsSuper bytes v
  pub sound : NoSuperFault bytes

-- the first fault in these sectors
pub record ReadsSuperFault (content : List ℕ) (honest : Bool) (fault : SuperFault) : Type 0 where
  pub bytes : List ℕ
  pub read : IsRead content honest 8 4096 bytes
  pub first : IsFirstSuperFault bytes fault

-- why no superblock is read, where `Failed P` says that a call on the device failed that has P: at `ReadFault` the read of
-- sectors 8 to 15, and of a device that is not honest too
abbrev pub RefusesSuper : List ℕ → Bool → ((Fault → Type 0) → Type 0) → MemberFault → Type 0
RefusesSuper content honest Failed TooShort = length content < 512 * 16
RefusesSuper content honest Failed ReadFault = HasSuperSectors content × Failed (IsReadOf 8 4096)
RefusesSuper content honest Failed (Super f) = ReadsSuperFault content honest f × (f ≢ super_fault.NoMemory)
RefusesSuper content honest Failed NoMemory = ReadsSuperFault content honest super_fault.NoMemory
RefusesSuper content honest Failed _ = ⊥

abbrev pub GivesSuper : List ℕ → Bool → ((Fault → Type 0) → Type 0) → Result Superblock MemberFault → Type 0
GivesSuper content honest Failed result = MatchResult result (ReadsSuper content honest) (RefusesSuper content honest Failed)

-- the sector where the bitmap starts
abbrev pub BitmapStartsAt : Superblock → ℕ → Type 0
BitmapStartsAt v sector = pos sector ≡ pos 8 +ℤ v.bitmap_offset

-- the header's bytes in the bitmap's first sector
abbrev pub front_of : List ℕ → List ℕ
front_of sector = bytes_at 256 0 sector

-- the header in the bitmap's first sector, in which no fault stands
pub record ReadsHeader (content : List ℕ) (honest : Bool) (v : Superblock) (h : BitmapHeader) : Type 0 where
  pub start : ℕ
  pub at : BitmapStartsAt v start
  pub sector : List ℕ
  pub read : IsRead content honest start 512 sector
  pub fields : IsHeader (front_of sector) h
  pub sound : NoneStands (front_of sector)

-- the first fault in that sector
pub record ReadsHeaderFault (content : List ℕ) (honest : Bool) (v : Superblock) (fault : BitmapFault) : Type 0 where
  pub start : ℕ
  pub at : BitmapStartsAt v start
  pub sector : List ℕ
  pub read : IsRead content honest start 512 sector
  pub first : IsFirst (BitmapFaultStands (front_of sector)) bitmap_fault_place fault

-- the chunks of the array, by the superblock's size and the bitmap's chunk size
abbrev pub chunks_of : Superblock → BitmapHeader → ℕ
chunks_of v h = chunk_count v.size h.chunksize

-- the marks in the area of so many sectors from a sector on
pub record IsMarks (content : List ℕ) (honest : Bool) (start chunks sectors : ℕ) (m : Bitmap) : Type 0 where
  pub area : List ℕ
  pub read : IsRead content honest start (512 * sectors) area
  pub chunks_are : m.chunks ≡ chunks
  pub bits : m.bytes ≡ drop 256 area

-- why they are not read
abbrev pub RefusesMarks : ((Fault → Type 0) → Type 0) → ℕ → ℕ → MemberFault → Type 0
RefusesMarks Failed start sectors ReadFault = Failed (IsReadOf start (512 * sectors))
RefusesMarks Failed start sectors NoMemory = Unit {0}
RefusesMarks Failed start sectors _ = ⊥

abbrev pub GivesMarks : List ℕ → Bool → ((Fault → Type 0) → Type 0) → ℕ → ℕ → ℕ → Result Bitmap MemberFault → Type 0
GivesMarks content honest Failed start chunks sectors result =
    MatchResult result (IsMarks content honest start chunks sectors) (RefusesMarks Failed start sectors)

-- the header, and the marks, whose area fits the device
pub record ReadsBitmap (content : List ℕ) (honest : Bool) (sectors : ℕ) (v : Superblock) (h : BitmapHeader) (m : Bitmap) : Type 0 where
  pub header : ReadsHeader content honest v h
  pub few_chunks : chunks_of v h ≤ 1048576
  pub placed : AreAreasPlaced sectors v (bitmap_sectors (chunks_of v h))
  pub start : ℕ
  pub at : BitmapStartsAt v start
  pub marks : IsMarks content honest start (chunks_of v h) (bitmap_sectors (chunks_of v h)) m

-- The header was read, and the bitmap's area fits the device by it.
pub record FitsByHeader (content : List ℕ) (honest : Bool) (sectors : ℕ) (v : Superblock) (h : BitmapHeader) : Type 0 where
  pub header : ReadsHeader content honest v h
  pub few_chunks : chunks_of v h ≤ 1048576
  pub placed : AreAreasPlaced sectors v (bitmap_sectors (chunks_of v h))

-- a read of the bitmap failed: of its first sector, or of its area
pub record BitmapReadFails (content : List ℕ) (honest : Bool) (Failed : (Fault → Type 0) → Type 0) (sectors : ℕ) (v : Superblock) : Type 0 where
  pub start : ℕ
  pub at : BitmapStartsAt v start
  pub failed : Failed (IsReadOf start 512)
      ⊎ (h : BitmapHeader) × FitsByHeader content honest sectors v h × Failed (IsReadOf start (512 * bitmap_sectors (chunks_of v h)))

-- why the bitmap of a member, of which the bitmap's first sector fits the device, is not read
abbrev pub RefusesBitmap : List ℕ → Bool → ((Fault → Type 0) → Type 0) → ℕ → Superblock → MemberFault → Type 0
RefusesBitmap content honest Failed sectors v ReadFault = BitmapReadFails content honest Failed sectors v
RefusesBitmap content honest Failed sectors v (BitmapRefused f) =
    ReadsHeaderFault content honest v f
    ⊎ (f ≡ TooManyChunks) × (h : BitmapHeader) × ReadsHeader content honest v h × (1048576 < chunks_of v h)
RefusesBitmap content honest Failed sectors v Region =
    (h : BitmapHeader) × ReadsHeader content honest v h × (chunks_of v h ≤ 1048576) × (AreAreasPlaced sectors v (bitmap_sectors (chunks_of v h)) → ⊥)
RefusesBitmap content honest Failed sectors v NoMemory =
    (h : BitmapHeader) × ReadsHeader content honest v h × (chunks_of v h ≤ 1048576) × AreAreasPlaced sectors v (bitmap_sectors (chunks_of v h))
RefusesBitmap content honest Failed sectors v _ = ⊥

abbrev pub GivesBitmap : List ℕ → Bool → ((Fault → Type 0) → Type 0) → ℕ → Superblock → Result (BitmapHeader × Bitmap) MemberFault → Type 0
GivesBitmap content honest Failed sectors v result =
    MatchResult result (λ b. ReadsBitmap content honest sectors v b.0 b.1) (RefusesBitmap content honest Failed sectors v)

-- the sector where the log starts
abbrev pub LogStartsAt : Superblock → ℕ → Type 0
LogStartsAt v sector = pos sector ≡ pos 8 +ℤ v.bblog_offset

-- the bad set in the log's area, whose units are at most 512 sectors
pub record ReadsLog (content : List ℕ) (honest : Bool) (v : Superblock) (bad : List Run) : Type 0 where
  pub shift : v.bblog_shift ≤ 9
  pub start : ℕ
  pub at : LogStartsAt v start
  pub area : List ℕ
  pub read : IsRead content honest start (512 * v.bblog_size) area
  pub set : IsReadAs v.bblog_shift area bad

-- why the log of a member, where its area fits the device, is not read
abbrev pub RefusesLog : ((Fault → Type 0) → Type 0) → Superblock → MemberFault → Type 0
RefusesLog Failed v ReadFault = (start : ℕ) × LogStartsAt v start × Failed (IsReadOf start (512 * v.bblog_size))
RefusesLog Failed v (Log f) = (f ≡ log_fault.Shift) × (9 < v.bblog_shift)
RefusesLog Failed v NoMemory = v.bblog_shift ≤ 9
RefusesLog Failed v _ = ⊥

abbrev pub GivesLog : List ℕ → Bool → ((Fault → Type 0) → Type 0) → Superblock → Result (List Run) MemberFault → Type 0
GivesLog content honest Failed v result = MatchResult result (ReadsLog content honest v) (RefusesLog Failed v)
