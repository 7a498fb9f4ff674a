-- The report of a superblock, as text: 24 lines in the terms of `mdadm --examine` where it has one, in a form of this
-- project's own.
use Rattle.std.specs.Prelude.{ℕ, ◌*◌, ◌-◌, ◌%◌, ◌^◌, ◌==◌, nat_lt, if◌then◌else◌, List, ◌++◌, map, codes, decimal, slice_index_or, bit_and}
use Rattle.std.specs.List.{range_with_len, list_any}
use Rattle.std.specs.Fmt.{signed_decimal}
use Rattle.uuid.specs.Text.{hyphenated_text, lower}
use Rattle.md_super.specs.declared.superblock.Superblock.{Superblock}
use Rattle.md_super.specs.Log.{has_bad_block_log}
use Rattle.md_examine.specs.Lines.{column, line_text, hex_text, hex8_text, sectors_text, name_text}

-- the seconds of a time, its low 40 bits
abbrev pub seconds : ℕ → ℕ
seconds time = time % 2 ^ 40

-- what a device of this role is called
abbrev pub role_text : ℕ → ℕ → List ℕ
role_text role raid_disks =
    if role == 0xfffe then codes "faulty" else (if nat_lt role raid_disks then codes "active " ++ decimal role else codes "spare")

abbrev pub own_role_text : Superblock → List ℕ
own_role_text v = role_text (slice_index_or v.roles v.dev_number 0xffff) v.raid_disks

-- whether some device has the role
abbrev pub state_letter : List ℕ → ℕ → ℕ
state_letter roles r = if list_any (λ x. x == r) roles then 65 else 46

-- a letter for each role
unfoldable pub array_state : List ℕ → ℕ → List ℕ
array_state roles raid_disks = map (state_letter roles) (range_with_len 0 raid_disks)

abbrev pub bitmap_text : Superblock → List ℕ
bitmap_text v = if bit_and v.feature_map 1 == 0 then codes "none" else signed_decimal v.bitmap_offset ++ codes " sectors from superblock"

abbrev pub recovery_text : Superblock → List ℕ
recovery_text v = if bit_and v.feature_map 2 == 0 then codes "none" else sectors_text v.recovery_offset

abbrev pub log_text : Superblock → List ℕ
log_text v = if has_bad_block_log v then decimal (64 * v.bblog_size) ++ codes " entries at " ++ signed_decimal v.bblog_offset ++ codes " sectors" else codes "none"

abbrev pub state_text : Superblock → List ℕ
state_text v = if v.resync_offset == 2 ^ 64 - 1 then codes "clean" else codes "active"

unfoldable pub array_lines : Superblock → List ℕ
array_lines v =
    line_text (column (codes "Magic")) (codes "a92b4efc")
    ++ line_text (column (codes "Version")) (codes "1.2")
    ++ line_text (column (codes "Feature Map")) (codes "0x" ++ hex_text v.feature_map)
    ++ line_text (column (codes "Array UUID")) (hyphenated_text lower v.set_uuid)
    ++ line_text (column (codes "Name")) (name_text v.set_name)
    ++ line_text (column (codes "Creation Time")) (decimal (seconds v.ctime))

unfoldable pub size_lines : Superblock → List ℕ
size_lines v =
    line_text (column (codes "Raid Level")) (codes "raid1")
    ++ line_text (column (codes "Raid Devices")) (decimal v.raid_disks)
    ++ line_text (column (codes "Used Dev Size")) (sectors_text v.size)
    ++ line_text (column (codes "Avail Dev Size")) (sectors_text v.data_size)
    ++ line_text (column (codes "Data Offset")) (sectors_text v.data_offset)
    ++ line_text (column (codes "Super Offset")) (sectors_text v.super_offset)

unfoldable pub device_lines : Superblock → List ℕ
device_lines v =
    line_text (column (codes "Recovery Offset")) (recovery_text v)
    ++ line_text (column (codes "Device Number")) (decimal v.dev_number)
    ++ line_text (column (codes "Device Role")) (own_role_text v)
    ++ line_text (column (codes "Device UUID")) (hyphenated_text lower v.device_uuid)
    ++ line_text (column (codes "Device Flags")) (codes "0x" ++ hex_text v.devflags)
    ++ line_text (column (codes "Internal Bitmap")) (bitmap_text v)

unfoldable pub state_lines : Superblock → List ℕ
state_lines v =
    line_text (column (codes "Bad Block Log")) (log_text v)
    ++ line_text (column (codes "Update Time")) (decimal (seconds v.utime))
    ++ line_text (column (codes "Events")) (decimal v.events)
    ++ line_text (column (codes "State")) (state_text v)
    ++ line_text (column (codes "Checksum")) (hex8_text v.sb_csum)
    ++ line_text (column (codes "Array State")) (array_state v.roles v.raid_disks)

-- the whole report
unfoldable pub examine_text : Superblock → List ℕ
examine_text v = array_lines v ++ size_lines v ++ device_lines v ++ state_lines v
