-- The partition table of the PC: four entries of 16 bytes from byte 446 of the first sector on, which ends with a mark. That a
-- file system's boot sector has none, and which entries count, is libblkid's.
use Rattle.std.specs.Prelude.{ℕ, ◌+◌, ◌==◌, ◌&&◌, ◌||◌, not, Bool, List, [], ◌∷◌, slice_index}
use Rattle.std.specs.List.{list_any}
use Rattle.md_notices.specs.declared.signatures.signature.Signature.{Signature}
use Rattle.md_notices.specs.declared.signatures.signature.Signature.TheVariants.{Ntfs, Exfat, Fat}
use Rattle.md_notices.specs.Signatures.Magics.{has_sign, sign}
use Rattle.md_notices.specs.Signatures.Table.{magics}

-- a file system of this kind begins with this sector
unfoldable pub has_name : List ℕ → Signature → Bool
has_name bytes s = list_any (has_sign bytes) (magics s)

-- a file system begins with this sector, which has a mark of its own at the end
abbrev pub is_boot_sector : List ℕ → Bool
is_boot_sector bytes = has_name bytes Ntfs || (has_name bytes Exfat || has_name bytes Fat)

-- the boot indicator of the entry at a place is 0 or 0x80
abbrev pub is_sound_entry : List ℕ → ℕ → Bool
is_sound_entry bytes place = slice_index bytes place == 0 || slice_index bytes place == 0x80

-- the entry has a type, and not the one that protects a GUID partition table
abbrev pub is_used_entry : List ℕ → ℕ → Bool
is_used_entry bytes place =
    not (slice_index bytes (place + 4) == 0) && not (slice_index bytes (place + 4) == 0xee)

abbrev pub are_sound : List ℕ → Bool
are_sound bytes =
    is_sound_entry bytes 446
    && (is_sound_entry bytes 462 && (is_sound_entry bytes 478 && is_sound_entry bytes 494))

abbrev pub is_one_used : List ℕ → Bool
is_one_used bytes =
    is_used_entry bytes 446
    || (is_used_entry bytes 462 || (is_used_entry bytes 478 || is_used_entry bytes 494))

-- the mark at the end
unfoldable pub has_mark : List ℕ → Bool
has_mark bytes = has_sign bytes (sign 510 (0x55 ∷ 0xaa ∷ []))

-- the mark stands, no file system begins here, all entries are sound, and one is used
unfoldable pub is_partition_table : List ℕ → Bool
is_partition_table bytes =
    has_mark bytes && (not (is_boot_sector bytes) && (are_sound bytes && is_one_used bytes))
