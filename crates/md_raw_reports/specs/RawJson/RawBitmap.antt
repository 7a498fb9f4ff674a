-- The object of a bitmap as it stands, though it may be refused: the values of its report, under the report's words.
use Rattle.std.specs.Prelude.{ℕ, ◌==◌, if◌then◌else◌, List, [], ◌∷◌, ◌++◌, Option, Some, None, codes, map}
use Rattle.std.specs.List.{filter}
use Rattle.serde_json.specs.Data.{Data, null, string}
use Rattle.md_bitmap.specs.declared.fault.BitmapFault.{BitmapFault}
use Rattle.md_raw_reports.specs.BitmapFields.{bitmap_fault_name, faults, bitmap_fault_stands}
use Rattle.md_raw_reports.specs.declared.raw_bitmap.CountedMarks.{CountedMarks}
use Rattle.md_raw_reports.specs.declared.raw_bitmap.RawBitmap.{RawBitmap}
use Rattle.md_raw_reports.specs.declared.raw_bitmap.RawBitmap.TheVariants.{Unplaced, Unreadable, Read}
use Rattle.md_raw_reports.specs.declared.raw_bitmap.UnreadMarks.{UnreadMarks}
use Rattle.md_raw_reports.specs.declared.fields.Kind.TheVariants.{Word, Long, Hex, HexDigits, Id, Name}
use Rattle.md_report.specs.AsJson.Objects.{Field, field, list_of, report_of, whole}
use Rattle.md_raw_reports.specs.RawJson.RawFields.{NamedRow, named_row, row_field}
use Rattle.md_raw_reports.specs.RawJson.RawSuper.{fault_list, unread_fields}

abbrev pub bitmap_rows : List NamedRow
bitmap_rows =
    named_row (codes "magic") HexDigits 0
    ∷ named_row (codes "version") Word 4
    ∷ named_row (codes "array_uuid") Id 8
    ∷ named_row (codes "events") Long 24
    ∷ named_row (codes "events_cleared") Long 32
    ∷ named_row (codes "sync_size") Long 40
    ∷ named_row (codes "state") Hex 48
    ∷ named_row (codes "chunk_size") Word 52
    ∷ named_row (codes "daemon_sleep") Word 56
    ∷ named_row (codes "write_behind") Word 60
    ∷ named_row (codes "reserved") Word 64
    ∷ named_row (codes "nodes") Word 68
    ∷ named_row (codes "cluster_name") Name 72
    ∷ []

-- the faults of the superblock that can be told by so many of its sectors
unfoldable pub super_fault_fields : ℕ → List ℕ → List Field
super_fault_fields read superblock = if read == 0 then [] else field (codes "super_faults") (fault_list read superblock) ∷ []

abbrev pub header_fault_value : BitmapFault → Data
header_fault_value fault = string (bitmap_fault_name fault)

-- the first sector of the bitmap that could not be read
abbrev pub lost_sector : Option UnreadMarks → Data
lost_sector None = null
lost_sector (Some u) = whole u.sector

abbrev pub lost_count : Option UnreadMarks → ℕ
lost_count None = 0
lost_count (Some u) = u.chunks

abbrev pub lost_of : Option CountedMarks → Data
lost_of None = null
lost_of (Some m) = lost_sector m.unread

-- the chunks, how many of them are marked, and of how many that could not be read
unfoldable pub raw_mark_fields : Option CountedMarks → List Field
raw_mark_fields None =
    field (codes "chunks") null
    ∷ field (codes "marked_chunks") null
    ∷ field (codes "unread_chunks") null
    ∷ []
raw_mark_fields (Some m) =
    field (codes "chunks") (whole m.chunks)
    ∷ field (codes "marked_chunks") (whole m.marked)
    ∷ field (codes "unread_chunks") (whole (lost_count m.unread))
    ∷ []

abbrev pub header_faults : List ℕ → Data
header_faults sector = list_of header_fault_value (filter (bitmap_fault_stands sector) faults)

unfoldable pub header_fields : List ℕ → Option CountedMarks → List Field
header_fields sector marks =
    field (codes "bitmap_unreadable_at") (lost_of marks)
    ∷ field (codes "faults") (header_faults sector)
    ∷ []

-- what could be read of the bitmap
unfoldable pub part_fields : RawBitmap → List Field
part_fields Unplaced = []
part_fields (Unreadable sector) = field (codes "bitmap_unreadable_at") (whole sector) ∷ []
part_fields (Read sector marks) =
    header_fields sector marks ++ (map (row_field sector) bitmap_rows ++ raw_mark_fields marks)

-- the whole object
abbrev pub raw_bitmap_object : ℕ → List ℕ → RawBitmap → Data
raw_bitmap_object read superblock bitmap =
    report_of (codes "examine-bitmap --all")
    (unread_fields read ∷ super_fault_fields read superblock ∷ part_fields bitmap ∷ [])
