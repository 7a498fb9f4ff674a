-- The magic numbers of each signature at fixed places of a device, in bytes from its start. Those of md are of md_p.h, those of
-- swap and ext of the kernel's headers, and all are in libblkid's tables.
use Rattle.std.specs.Prelude.{ℕ, List, [], ◌∷◌, codes}
use Rattle.md_notices.specs.declared.signatures.signature.Signature.{Signature}
use Rattle.md_notices.specs.declared.signatures.signature.Signature.TheVariants.{Md090, Md10, Md11, Md12, Luks, Lvm2, Bcache, Gpt, Mbr, Swap, Ext, Xfs, Btrfs, F2fs, Jfs, Reiserfs, Ntfs, Exfat, Fat, Squashfs, Iso9660}
use Rattle.md_notices.specs.Signatures.Magics.{Sign, sign}

-- the magic number 0xa92b4efc of an md superblock
abbrev pub md_magic : List ℕ
md_magic = 0xfc ∷ 0x4e ∷ 0x2b ∷ 0xa9 ∷ []

-- Version 0.90 and 1.0 of md stand at places by the size of the device, and a partition table of the PC is no magic number alone.
abbrev pub magics : Signature → List Sign
magics Md090 = []
magics Md10 = []
magics Md11 = sign 0 md_magic ∷ []
magics Md12 = sign 4096 md_magic ∷ []
magics Luks = sign 0 (0x4c ∷ 0x55 ∷ 0x4b ∷ 0x53 ∷ 0xba ∷ 0xbe ∷ []) ∷ []
magics Lvm2 =
    sign 24 (codes "LVM2 001") ∷ sign 536 (codes "LVM2 001") ∷ sign 1048 (codes "LVM2 001")
    ∷ sign 1560 (codes "LVM2 001") ∷ []
magics Bcache =
    sign 4120 (0xc6 ∷ 0x85 ∷ 0x73 ∷ 0xf6 ∷ 0x4e ∷ 0x1a ∷ 0x45 ∷ 0xca ∷ 0x82 ∷ 0x65 ∷ 0xf5 ∷ 0x7f ∷ 0x48 ∷ 0xba
    ∷ 0x6d ∷ 0x81 ∷ []) ∷ []
magics Gpt = sign 512 (codes "EFI PART") ∷ sign 4096 (codes "EFI PART") ∷ []
magics Mbr = []
magics Swap =
    sign 4086 (codes "SWAPSPACE2") ∷ sign 4086 (codes "SWAP-SPACE")
    ∷ sign 8182 (codes "SWAPSPACE2") ∷ sign 8182 (codes "SWAP-SPACE")
    ∷ sign 16374 (codes "SWAPSPACE2") ∷ sign 16374 (codes "SWAP-SPACE")
    ∷ sign 32758 (codes "SWAPSPACE2") ∷ sign 32758 (codes "SWAP-SPACE")
    ∷ sign 65526 (codes "SWAPSPACE2") ∷ sign 65526 (codes "SWAP-SPACE") ∷ []
magics Ext = sign 1080 (0x53 ∷ 0xef ∷ []) ∷ []
magics Xfs = sign 0 (codes "XFSB") ∷ []
magics Btrfs = sign 65600 (codes "_BHRfS_M") ∷ []
magics F2fs = sign 1024 (0x10 ∷ 0x20 ∷ 0xf5 ∷ 0xf2 ∷ []) ∷ []
magics Jfs = sign 32768 (codes "JFS1") ∷ []
magics Reiserfs =
    sign 65588 (codes "ReIsErFs") ∷ sign 65588 (codes "ReIsEr2Fs") ∷ sign 65588 (codes "ReIsEr3Fs")
    ∷ sign 8244 (codes "ReIsErFs") ∷ sign 8212 (codes "ReIsErFs") ∷ []
magics Ntfs = sign 3 (codes "NTFS    ") ∷ []
magics Exfat = sign 3 (codes "EXFAT   ") ∷ []
magics Fat =
    sign 54 (codes "FAT12   ") ∷ sign 54 (codes "FAT16   ") ∷ sign 54 (codes "FAT     ")
    ∷ sign 54 (codes "MSDOS")
    ∷ sign 82 (codes "FAT32   ") ∷ sign 82 (codes "MSWIN") ∷ []
magics Squashfs = sign 0 (codes "hsqs") ∷ sign 0 (codes "sqsh") ∷ []
magics Iso9660 = sign 32769 (codes "CD001") ∷ []
