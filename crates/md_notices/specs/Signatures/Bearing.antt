-- When a device bears a signature.
use Rattle.std.specs.Prelude.{ℕ, ◌*◌, ◌-◌, ◌/◌, Bool, false, List, length, nat_lt, Option, Some, None, if◌then◌else◌}
use Rattle.std.specs.List.{list_any}
use Rattle.md_device.specs.Device.{held}
use Rattle.md_notices.specs.declared.signatures.signature.Signature.{Signature}
use Rattle.md_notices.specs.declared.signatures.signature.Signature.TheVariants.{Md090, Md10, Md11, Md12, Luks, Lvm2, Bcache, Gpt, Mbr, Swap, Ext, Xfs, Btrfs, F2fs, Jfs, Reiserfs, Ntfs, Exfat, Fat, Squashfs, Iso9660}
use Rattle.md_notices.specs.Signatures.Magics.{has_sign, sign}
use Rattle.md_notices.specs.Signatures.Partitions.{is_partition_table}
use Rattle.md_notices.specs.Signatures.Table.{magics, md_magic}

-- The place of a superblock of version 0.90 on a device of so many sectors (MD_NEW_SIZE_SECTORS of md_p.h): the last multiple of
-- 64 KiB after which there are 64 KiB.
abbrev pub md_090_place : ℕ → Option ℕ
md_090_place sectors = if nat_lt sectors 128 then None else Some (512 * (sectors / 128 * 128 - 128))

-- The place of a superblock of version 1.0 (super_1_load of md.c): the last multiple of 4 KiB after which
-- there are 8 KiB.
abbrev pub md_10_place : ℕ → Option ℕ
md_10_place sectors = if nat_lt sectors 16 then None else Some (512 * ((sectors - 16) / 8 * 8))

-- the magic number of a superblock stands at the place, where there is one
abbrev pub has_superblock : List ℕ → Option ℕ → Bool
has_superblock content None = false
has_superblock content (Some place) = has_sign content (sign place md_magic)

-- A magic number of the signature stands on the device.
abbrev pub has_magic : List ℕ → Signature → Bool
has_magic content s = list_any (has_sign content) (magics s)

-- a device with this content bears the signature
unfoldable pub bears_signature : List ℕ → Signature → Bool
bears_signature content Md090 = has_superblock content (md_090_place (length content / 512))
bears_signature content Md10 = has_superblock content (md_10_place (length content / 512))
bears_signature content Mbr = is_partition_table (held content 0 512)
bears_signature content Md11 = has_magic content Md11
bears_signature content Md12 = has_magic content Md12
bears_signature content Luks = has_magic content Luks
bears_signature content Lvm2 = has_magic content Lvm2
bears_signature content Bcache = has_magic content Bcache
bears_signature content Gpt = has_magic content Gpt
bears_signature content Swap = has_magic content Swap
bears_signature content Ext = has_magic content Ext
bears_signature content Xfs = has_magic content Xfs
bears_signature content Btrfs = has_magic content Btrfs
bears_signature content F2fs = has_magic content F2fs
bears_signature content Jfs = has_magic content Jfs
bears_signature content Reiserfs = has_magic content Reiserfs
bears_signature content Ntfs = has_magic content Ntfs
bears_signature content Exfat = has_magic content Exfat
bears_signature content Fat = has_magic content Fat
bears_signature content Squashfs = has_magic content Squashfs
bears_signature content Iso9660 = has_magic content Iso9660
