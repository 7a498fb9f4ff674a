-- The object of a superblock as it stands, though it may be refused: the values of its report, under the report's words.
use Rattle.std.specs.Prelude.{ℕ, ◌+◌, ◌*◌, ◌==◌, not, nat_le, nat_lt, if◌then◌else◌, Bool, true, false, List, [], ◌∷◌, ◌++◌, codes, map}
use Rattle.std.specs.List.{filter}
use Rattle.uuid.specs.Text.{hyphenated_text, lower}
use Rattle.serde_json.specs.Data.{Data, null, string}
use Rattle.md_format.specs.Fields.{number_at}
use Rattle.md_super.specs.Checksum.{checksum_of}
use Rattle.md_super.specs.Profile.{unsupported_features}
use Rattle.md_super.specs.declared.fault.SuperFault.{SuperFault}
use Rattle.md_examine.specs.Lines.{hex8_text}
use Rattle.md_raw_reports.specs.SuperFaults.{super_fault_name, faults_of, is_seen, roles_read_in}
use Rattle.md_raw_reports.specs.SuperFields.{roles_there}
use Rattle.md_raw_reports.specs.declared.super_fields.Found.{Found}
use Rattle.md_raw_reports.specs.declared.super_fields.Found.TheVariants.{Nothing, Unreadable, Superblock}
use Rattle.md_raw_reports.specs.declared.fields.Kind.TheVariants.{Byte, Half, Word, Long, Signed, Time, HexByte, Hex, HexDigits, Id, Name}
use Rattle.md_report.specs.AsJson.Objects.{Field, field, list_of, object_of, report_of, whole}
use Rattle.md_raw_reports.specs.RawJson.RawFields.{NamedRow, named_row, row_field}

abbrev pub super_rows : List NamedRow
super_rows =
    named_row (codes "magic") HexDigits 0
    ∷ named_row (codes "major_version") Word 4
    ∷ named_row (codes "feature_map") Hex 8
    ∷ named_row (codes "array_uuid") Id 16
    ∷ named_row (codes "name") Name 32
    ∷ named_row (codes "creation_time") Time 64
    ∷ named_row (codes "raid_level") Word 72
    ∷ named_row (codes "layout") Word 76
    ∷ named_row (codes "used_dev_size") Long 80
    ∷ named_row (codes "chunk_size") Word 88
    ∷ named_row (codes "raid_devices") Word 92
    ∷ named_row (codes "bitmap_offset") Signed 96
    ∷ named_row (codes "new_level") Word 100
    ∷ named_row (codes "reshape_place") Long 104
    ∷ named_row (codes "delta_devices") Signed 112
    ∷ named_row (codes "new_layout") Word 116
    ∷ named_row (codes "new_chunk_size") Word 120
    ∷ named_row (codes "new_offset") Signed 124
    ∷ named_row (codes "data_offset") Long 128
    ∷ named_row (codes "avail_dev_size") Long 136
    ∷ named_row (codes "super_offset") Long 144
    ∷ named_row (codes "recovery_offset") Long 152
    ∷ named_row (codes "device_number") Word 160
    ∷ named_row (codes "corrected_reads") Word 164
    ∷ named_row (codes "device_uuid") Id 168
    ∷ named_row (codes "device_flags") HexByte 184
    ∷ named_row (codes "log_shift") Byte 185
    ∷ named_row (codes "log_size") Half 186
    ∷ named_row (codes "log_offset") Signed 188
    ∷ named_row (codes "update_time") Time 192
    ∷ named_row (codes "events") Long 200
    ∷ named_row (codes "resync_offset") Long 208
    ∷ named_row (codes "role_count") Word 220
    ∷ named_row (codes "checksum") HexDigits 216
    ∷ []

-- the first of sectors 8 to 15 that could not be read, where so many from the first on could
abbrev pub unread_value : ℕ → Data
unread_value read = if nat_lt read 8 then whole (8 + read) else null

unfoldable pub unread_fields : ℕ → List Field
unread_fields read = field (codes "unreadable_at") (unread_value read) ∷ []

-- ---- what is seen where the first could
-- the faults that can be told and stand
abbrev pub super_fault_value : SuperFault → Data
super_fault_value fault = string (super_fault_name fault)

abbrev pub fault_list : ℕ → List ℕ → Data
fault_list read bytes = list_of super_fault_value (filter (is_seen read bytes) (faults_of bytes))

unfoldable pub fault_fields : ℕ → List ℕ → List Field
fault_fields read bytes =
    field (codes "faults") (fault_list read bytes)
    ∷ field (codes "unsupported_features") (whole (unsupported_features (number_at 4 8 bytes)))
    ∷ []

-- the checksum that the bytes have, where the sectors that were read hold all that it covers
abbrev pub computed_value : ℕ → List ℕ → Data
computed_value read bytes =
    if nat_le (number_at 4 220 bytes) (roles_read_in read)
    then string (hex8_text (checksum_of bytes (number_at 4 220 bytes))) else null

-- the role of a device, by its number, where it is not that of a spare
abbrev pub role_at : List ℕ → ℕ → ℕ
role_at bytes number = number_at 2 (256 + 2 * number) bytes

abbrev pub has_role : List ℕ → ℕ → Bool
has_role bytes number = not (role_at bytes number == 0xffff)

unfoldable pub role_fields : List ℕ → ℕ → List Field
role_fields bytes number = field (codes "role") (whole (role_at bytes number)) ∷ []

abbrev pub role_object : List ℕ → ℕ → Data
role_object bytes number = object_of (field (codes "device_number") (whole number) ∷ role_fields bytes number)

abbrev pub role_list : ℕ → List ℕ → Data
role_list read bytes = list_of (role_object bytes) (filter (has_role bytes) (roles_there read bytes))

unfoldable pub sum_fields : ℕ → List ℕ → List Field
sum_fields read bytes =
    field (codes "computed_checksum") (computed_value read bytes)
    ∷ field (codes "roles") (role_list read bytes)
    ∷ []

unfoldable pub known_fields : ℕ → List ℕ → List Field
known_fields read bytes =
    if read == 0 then [] else (fault_fields read bytes ++ (map (row_field bytes) super_rows ++ sum_fields read bytes))

-- ---- the other places
abbrev pub is_found : Found → Bool
is_found Nothing = false
is_found _ = true

-- no array where it could not be read
abbrev pub found_array : Found → Data
found_array Nothing = null
found_array (Unreadable sector) = null
found_array (Superblock sector id) = string (hyphenated_text lower id)

abbrev pub found_sector : Found → ℕ
found_sector Nothing = 0
found_sector (Unreadable sector) = sector
found_sector (Superblock sector id) = sector

unfoldable pub elsewhere_fields : Found → List Field
elsewhere_fields found = field (codes "array_uuid") (found_array found) ∷ []

abbrev pub found_object : Found → Data
found_object found = object_of (field (codes "sector") (whole (found_sector found)) ∷ elsewhere_fields found)

unfoldable pub found_fields : List Found → List Field
found_fields found = field (codes "elsewhere") (list_of found_object (filter is_found found)) ∷ []

-- the whole object
abbrev pub raw_super_object : ℕ → List ℕ → List Found → Data
raw_super_object read bytes found =
    report_of (codes "examine --all") (unread_fields read ∷ known_fields read bytes ∷ found_fields found ∷ [])
