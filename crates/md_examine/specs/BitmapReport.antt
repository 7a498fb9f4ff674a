-- The report of a bitmap, as text: ten lines of the field's terms, as `mdadm --examine-bitmap` has them, in a form of
-- this project's own.
use Rattle.std.specs.Prelude.{ℕ, List, ◌++◌, codes, decimal}
use Rattle.uuid.specs.Text.{hyphenated_text, lower}
use Rattle.md_bitmap.specs.declared.header.BitmapHeader.{BitmapHeader}
use Rattle.md_bitmap.specs.Marks.{Bitmap, count_set}
use Rattle.md_examine.specs.Lines.{column, line_text, hex_text, sectors_text}

-- how many chunks there are, and how many of them are marked
abbrev pub marks_text : Bitmap → List ℕ
marks_text m = decimal m.chunks ++ codes " chunks, " ++ decimal (count_set m.bytes m.chunks) ++ codes " marked"

unfoldable pub identity_lines : BitmapHeader → List ℕ
identity_lines v =
    line_text (column (codes "Magic")) (codes "6d746962")
    ++ line_text (column (codes "Version")) (codes "4")
    ++ line_text (column (codes "Array UUID")) (hyphenated_text lower v.uuid)
    ++ line_text (column (codes "Events")) (decimal v.events)
    ++ line_text (column (codes "Events Cleared")) (decimal v.events_cleared)

unfoldable pub setting_lines : BitmapHeader → List ℕ
setting_lines v =
    line_text (column (codes "State")) (codes "0x" ++ hex_text v.state)
    ++ line_text (column (codes "Chunk Size")) (decimal v.chunksize ++ codes " bytes")
    ++ line_text (column (codes "Daemon Sleep")) (decimal v.daemon_sleep ++ codes " seconds")
    ++ line_text (column (codes "Sync Size")) (sectors_text v.sync_size)

-- the whole report
unfoldable pub bitmap_report : BitmapHeader → Bitmap → List ℕ
bitmap_report v m = identity_lines v ++ setting_lines v ++ line_text (column (codes "Bitmap")) (marks_text m)
