-- The report of a bitmap's header as it stands, though it may be refused: every field of `struct bitmap_super_s` of
-- md-bitmap.h but for the padding.
use Rattle.std.specs.Prelude.{ℕ, ◌==◌, ◌&&◌, not, nat_le, if◌then◌else◌, Bool, List, [], ◌∷◌, ◌++◌, Option, Some, None, codes, decimal}
use Rattle.std.specs.List.{flat_map}
use Rattle.std.specs.Int.{is_power_of_two}
use Rattle.md_format.specs.Fields.{number_at}
use Rattle.md_bitmap.specs.Faults.{BitmapFaultStands}
use Rattle.md_bitmap.specs.Sound.{IsChunkSize, chunk_count}
use Rattle.md_bitmap.specs.declared.fault.BitmapFault.{BitmapFault}
use Rattle.md_bitmap.specs.declared.fault.BitmapFault.TheVariants as fault
use Rattle.md_examine.specs.Lines.{column, line_text}
use Rattle.md_raw_reports.specs.Fields.{Row, row, row_text}
use Rattle.md_raw_reports.specs.SuperFaults.{faults_text}
use Rattle.md_raw_reports.specs.SuperFields.{unread_line_text, unreadable_line}
use Rattle.md_raw_reports.specs.declared.raw_bitmap.CountedMarks.{CountedMarks}
use Rattle.md_raw_reports.specs.declared.raw_bitmap.RawBitmap.{RawBitmap}
use Rattle.md_raw_reports.specs.declared.raw_bitmap.RawBitmap.TheVariants.{Unplaced, Unreadable, Read}
use Rattle.md_raw_reports.specs.declared.raw_bitmap.UnreadMarks.{UnreadMarks}
use Rattle.md_raw_reports.specs.declared.fields.Kind.TheVariants.{Word, Long, Hex, HexDigits, Id, Name}

-- The fault stands, and can be told: chunks are counted by a size that they may have.
abbrev pub IsBitmapFaultSeen : List ℕ → BitmapFault → Type 0
IsBitmapFaultSeen bytes fault.TooManyChunks = IsChunkSize (number_at 4 52 bytes) × BitmapFaultStands bytes fault.TooManyChunks
IsBitmapFaultSeen bytes f = BitmapFaultStands bytes f

-- a size that chunks may have, as a test
abbrev pub is_chunk_size : ℕ → Bool
is_chunk_size size = is_power_of_two size && nat_le 512 size

-- Whether a fault is seen, as a test.
abbrev pub bitmap_fault_stands : List ℕ → BitmapFault → Bool
bitmap_fault_stands bytes fault.Magic = not (number_at 4 0 bytes == 0x6d746962)
bitmap_fault_stands bytes fault.Version = not (number_at 4 4 bytes == 4)
bitmap_fault_stands bytes fault.ChunkSize = not (is_chunk_size (number_at 4 52 bytes))
bitmap_fault_stands bytes fault.TooManyChunks = is_chunk_size (number_at 4 52 bytes) && not (nat_le (chunk_count (number_at 8 40 bytes) (number_at 4 52 bytes)) 1048576)

-- all faults, in the order in which a header is refused by them
abbrev pub faults : List BitmapFault
faults = fault.Magic ∷ fault.Version ∷ fault.ChunkSize ∷ fault.TooManyChunks ∷ []

abbrev pub bitmap_fault_name : BitmapFault → List ℕ
bitmap_fault_name fault.Magic = codes "Magic"
bitmap_fault_name fault.Version = codes "Version"
bitmap_fault_name fault.ChunkSize = codes "ChunkSize"
bitmap_fault_name fault.TooManyChunks = codes "TooManyChunks"

-- a line where it stands
abbrev pub bitmap_fault_text : List ℕ → BitmapFault → List ℕ
bitmap_fault_text bytes f = if bitmap_fault_stands bytes f then line_text (column (codes "Fault")) (bitmap_fault_name f) else []

abbrev pub bitmap_fields : List Row
bitmap_fields =
    row (codes "Magic") HexDigits 0 []
    ∷ row (codes "Version") Word 4 []
    ∷ row (codes "Array UUID") Id 8 []
    ∷ row (codes "Events") Long 24 []
    ∷ row (codes "Events Cleared") Long 32 []
    ∷ row (codes "Sync Size") Long 40 (codes " sectors")
    ∷ row (codes "State") Hex 48 []
    ∷ row (codes "Chunk Size") Word 52 (codes " bytes")
    ∷ row (codes "Daemon Sleep") Word 56 (codes " seconds")
    ∷ row (codes "Write Behind") Word 60 []
    ∷ row (codes "Reserved") Word 64 (codes " sectors")
    ∷ row (codes "Nodes") Word 68 []
    ∷ row (codes "Cluster Name") Name 72 []
    ∷ []

-- the marks from this sector on could not be read: they are of so many chunks
unfoldable pub unread_marks_text : Option UnreadMarks → List ℕ
unread_marks_text None = []
unread_marks_text (Some u) =
    line_text (column (codes "Unread")) (decimal u.chunks ++ codes " chunks") ++ unreadable_line u.sector

-- how many chunks there are by the header, how many of them are marked as far as that was read, and of how many it was not
unfoldable pub counted_text : Option CountedMarks → List ℕ
counted_text None = []
counted_text (Some m) =
    line_text (column (codes "Bitmap")) (decimal m.chunks ++ codes " chunks, " ++ decimal m.marked ++ codes " marked")
    ++ unread_marks_text m.unread

-- the header in the first sector, its faults first
unfoldable pub header_text : List ℕ → List ℕ
header_text sector = flat_map (bitmap_fault_text sector) faults ++ flat_map (row_text sector) bitmap_fields

-- the header, and the marks
abbrev pub read_text : List ℕ → Option CountedMarks → List ℕ
read_text sector marks = header_text sector ++ counted_text marks

-- what could be read of the bitmap
unfoldable pub part_text : RawBitmap → List ℕ
part_text Unplaced = []
part_text (Unreadable sector) = unreadable_line sector
part_text (Read sector marks) = read_text sector marks

-- the whole report: what of the superblock could not be read, its faults, and what could be read of the bitmap
unfoldable pub bitmap_all_text : ℕ → List ℕ → RawBitmap → List ℕ
bitmap_all_text read superblock bitmap =
    unread_line_text read ++ faults_text (column (codes "Super Fault")) read superblock ++ part_text bitmap
