-- The report of a bad block log as it stands, though it may be refused: its entries by their places.
use Rattle.std.specs.Prelude.{ℕ, ◌*◌, ◌-◌, ◌/◌, ◌%◌, ◌^◌, ◌==◌, nat_lt, if◌then◌else◌, List, [], ◌∷◌, ◌++◌, Option, Some, None, codes, decimal, length}
use Rattle.std.specs.List.{flat_map, range_with_len}
use Rattle.md_format.specs.Fields.{number_at}
use Rattle.md_examine.specs.Lines.{column, line_text, right_aligned}
use Rattle.md_raw_reports.specs.Fields.{Row, row, row_text}
use Rattle.md_raw_reports.specs.SuperFaults.{faults_text}
use Rattle.md_raw_reports.specs.SuperFields.{unread_line_text, unreadable_line}
use Rattle.md_raw_reports.specs.declared.fields.Kind.TheVariants.{Byte, Half, Signed}

-- the fields of a superblock that tell of the log
abbrev pub log_fields : List Row
log_fields =
    row (codes "Log Shift") Byte 185 []
    ∷ row (codes "Log Size") Half 186 (codes " sectors")
    ∷ row (codes "Log Offset") Signed 188 (codes " sectors from superblock")
    ∷ []

-- the only fault of a log: its units are shifted by more than 9 bits
abbrev pub shift_fault : List ℕ → List ℕ
shift_fault superblock =
    if nat_lt 9 (number_at 1 185 superblock) then line_text (column (codes "Fault")) (codes "Shift") else []

-- the places of the entries for which an area has room
abbrev pub entries_there : List ℕ → List ℕ
entries_there area = range_with_len 0 (length area / 8)

-- an entry's first sector and length, in units of 2^shift sectors, and its place
unfoldable pub entry_line : ℕ → ℕ → ℕ → List ℕ
entry_line place start len =
    right_aligned 12 (decimal start) ++ (codes " for " ++ decimal len) ++ (codes " units, entry " ++ decimal place) ++ codes "\n"

-- a line where the entry is not all ones
abbrev pub entry_text : List ℕ → ℕ → List ℕ
entry_text area place =
    if number_at 8 (8 * place) area == 2 ^ 64 - 1 then []
    else entry_line place (number_at 8 (8 * place) area / 1024) (number_at 8 (8 * place) area % 1024)

-- the fault of the log and what the superblock says of it, where so many of the superblock's sectors could be read
unfoldable pub log_told_text : ℕ → List ℕ → List ℕ
log_told_text read superblock = if read == 0 then [] else (shift_fault superblock ++ flat_map (row_text superblock) log_fields)

-- the log's first sector, where the log could not be read
abbrev pub lost_log_text : Option ℕ → List ℕ
lost_log_text None = []
lost_log_text (Some sector) = unreadable_line sector

-- The whole report: what of the superblock could not be read, its faults and those of the log, what the superblock says of the log,
-- that the log could not be read, and its entries.
unfoldable pub log_all_text : ℕ → List ℕ → Option ℕ → List ℕ → List ℕ
log_all_text read superblock lost area =
    unread_line_text read
    ++ faults_text (column (codes "Super Fault")) read superblock
    ++ log_told_text read superblock
    ++ lost_log_text lost
    ++ flat_map (entry_text area) (entries_there area)
