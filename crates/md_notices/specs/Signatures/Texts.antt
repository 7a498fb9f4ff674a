-- What is said of each signature.
use Rattle.std.specs.Prelude.{ℕ, List, codes}
use Rattle.md_notices.specs.declared.signatures.signature.Signature.{Signature}
use Rattle.md_notices.specs.declared.signatures.signature.Signature.TheVariants.{Md090, Md10, Md11, Md12, Luks, Lvm2, Bcache, Gpt, Mbr, Swap, Ext, Xfs, Btrfs, F2fs, Jfs, Reiserfs, Ntfs, Exfat, Fat, Squashfs, Iso9660}

abbrev pub text_of : Signature → List ℕ
text_of Md090 = codes "an md superblock of version 0.90"
text_of Md10 = codes "an md superblock of version 1.0"
text_of Md11 = codes "an md superblock of version 1.1"
text_of Md12 = codes "an md superblock of version 1.2"
text_of Luks = codes "a LUKS volume"
text_of Lvm2 = codes "an LVM2 physical volume"
text_of Bcache = codes "a bcache device"
text_of Gpt = codes "a GUID partition table"
text_of Mbr = codes "a DOS partition table"
text_of Swap = codes "swap space"
text_of Ext = codes "an ext2, ext3 or ext4 file system"
text_of Xfs = codes "an XFS file system"
text_of Btrfs = codes "a Btrfs file system"
text_of F2fs = codes "an F2FS file system"
text_of Jfs = codes "a JFS file system"
text_of Reiserfs = codes "a ReiserFS file system"
text_of Ntfs = codes "an NTFS file system"
text_of Exfat = codes "an exFAT file system"
text_of Fat = codes "a FAT file system"
text_of Squashfs = codes "a SquashFS file system"
text_of Iso9660 = codes "an ISO 9660 file system"
