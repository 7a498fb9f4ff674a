-- The report of a superblock as it stands, though it may be refused: every field of `struct mdp_superblock_1` of md_p.h
-- before the roles but for the padding, in the terms of `mdadm --examine` where it has one.
use Rattle.std.specs.Prelude.{ℕ, ◌+◌, ◌*◌, ◌==◌, nat_lt, nat_le, if◌then◌else◌, List, [], ◌∷◌, ◌++◌, codes, decimal, min}
use Rattle.std.specs.List.{flat_map, range_with_len}
use Rattle.uuid.specs.Text.{hyphenated_text, lower}
use Rattle.md_format.specs.Fields.{number_at}
use Rattle.md_super.specs.Checksum.{checksum_of}
use Rattle.md_examine.specs.Lines.{column, line_text, hex8_text, sectors_text}
use Rattle.md_raw_reports.specs.Fields.{Row, row, row_text}
use Rattle.md_raw_reports.specs.SuperFaults.{faults_text, roles_read_in}
use Rattle.md_raw_reports.specs.declared.fields.Kind.TheVariants.{Byte, Half, Word, Long, Signed, Time, HexByte, Hex, HexDigits, Id, Name}
use Rattle.md_raw_reports.specs.declared.super_fields.Found.{Found}
use Rattle.md_raw_reports.specs.declared.super_fields.Found.TheVariants.{Nothing, Unreadable, Superblock}

abbrev pub super_fields : List Row
super_fields =
    row (codes "Magic") HexDigits 0 []
    ∷ row (codes "Major Version") Word 4 []
    ∷ row (codes "Feature Map") Hex 8 []
    ∷ row (codes "Array UUID") Id 16 []
    ∷ row (codes "Name") Name 32 []
    ∷ row (codes "Creation Time") Time 64 []
    ∷ row (codes "Raid Level") Word 72 []
    ∷ row (codes "Layout") Word 76 []
    ∷ row (codes "Used Dev Size") Long 80 (codes " sectors")
    ∷ row (codes "Chunk Size") Word 88 (codes " sectors")
    ∷ row (codes "Raid Devices") Word 92 []
    ∷ row (codes "Bitmap Offset") Signed 96 (codes " sectors from superblock")
    ∷ row (codes "New Level") Word 100 []
    ∷ row (codes "Reshape Place") Long 104 (codes " sectors")
    ∷ row (codes "Delta Devices") Signed 112 []
    ∷ row (codes "New Layout") Word 116 []
    ∷ row (codes "New Chunk Size") Word 120 (codes " sectors")
    ∷ row (codes "New Offset") Signed 124 (codes " sectors")
    ∷ row (codes "Data Offset") Long 128 (codes " sectors")
    ∷ row (codes "Avail Dev Size") Long 136 (codes " sectors")
    ∷ row (codes "Super Offset") Long 144 (codes " sectors")
    ∷ row (codes "Recovery Offset") Long 152 (codes " sectors")
    ∷ row (codes "Device Number") Word 160 []
    ∷ row (codes "Corrected Reads") Word 164 []
    ∷ row (codes "Device UUID") Id 168 []
    ∷ row (codes "Device Flags") HexByte 184 []
    ∷ row (codes "Log Shift") Byte 185 []
    ∷ row (codes "Log Size") Half 186 (codes " sectors")
    ∷ row (codes "Log Offset") Signed 188 (codes " sectors from superblock")
    ∷ row (codes "Update Time") Time 192 []
    ∷ row (codes "Events") Long 200 []
    ∷ row (codes "Resync Offset") Long 208 (codes " sectors")
    ∷ row (codes "Role Count") Word 220 []
    ∷ row (codes "Checksum") HexDigits 216 []
    ∷ []

-- the checksum that the bytes have, where the sectors that were read hold all that it covers
abbrev pub computed_line : ℕ → List ℕ → List ℕ
computed_line read bytes =
    line_text (column (codes "Computed"))
    (if nat_le (number_at 4 220 bytes) (roles_read_in read)
    then hex8_text (checksum_of bytes (number_at 4 220 bytes)) else codes "unknown")

-- the devices whose roles these sectors have room for, by their numbers
abbrev pub roles_there : ℕ → List ℕ → List ℕ
roles_there read bytes = range_with_len 0 (min (number_at 4 220 bytes) (roles_read_in read))

abbrev pub role_line : ℕ → ℕ → List ℕ
role_line role number = line_text (column (codes "Role")) (decimal role ++ codes " of device " ++ decimal number)

-- a line where the role is not that of a spare
abbrev pub role_line_text : List ℕ → ℕ → List ℕ
role_line_text bytes number =
    if number_at 2 (256 + 2 * number) bytes == 0xffff then [] else role_line (number_at 2 (256 + 2 * number) bytes) number

-- a superblock at this sector, of the array of this identifier
abbrev pub place_line : ℕ → List ℕ → List ℕ
place_line sector id = line_text (column (codes "Superblock At")) (decimal sector ++ codes " sectors, of array " ++ id)

-- what stands from this sector on, up to the end of what was to be read, could not be read
abbrev pub unreadable_line : ℕ → List ℕ
unreadable_line sector = line_text (column (codes "Unreadable At")) (sectors_text sector)

-- what was found at another place
unfoldable pub found_text : Found → List ℕ
found_text Nothing = []
found_text (Unreadable sector) = unreadable_line sector
found_text (Superblock sector id) = place_line sector (hyphenated_text lower id)

-- so many of sectors 8 to 15 could be read, from the first on: the one that follows them, where these are not all
abbrev pub unread_line_text : ℕ → List ℕ
unread_line_text read = if nat_lt read 8 then unreadable_line (8 + read) else []

-- what is seen in them: the fields, the checksum and the roles
unfoldable pub fields_text : ℕ → List ℕ → List ℕ
fields_text read bytes =
    flat_map (row_text bytes) super_fields
    ++ computed_line read bytes
    ++ flat_map (role_line_text bytes) (roles_there read bytes)

-- what is seen, where a sector could be read at all
unfoldable pub shown_text : ℕ → List ℕ → List ℕ
shown_text read bytes = if read == 0 then [] else fields_text read bytes

-- The whole report: what could not be read, a line for each fault, the fields, the roles, and the other places. So many sectors of
-- the superblock could be read.
unfoldable pub all_text : ℕ → List ℕ → List Found → List ℕ
all_text read bytes found =
    unread_line_text read
    ++ faults_text (column (codes "Fault")) read bytes
    ++ shown_text read bytes
    ++ flat_map found_text found
