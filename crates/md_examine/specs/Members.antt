-- Why a device is not read as a member, as text: the fault's name and its values, one space between them.
use Rattle.std.specs.Prelude.{ℕ, List, ◌++◌, codes, decimal}
use Rattle.md_badblocks.specs.declared.log.LogFault.{LogFault}
use Rattle.md_badblocks.specs.declared.log.LogFault.TheVariants as log
use Rattle.md_bitmap.specs.declared.fault.BitmapFault.{BitmapFault}
use Rattle.md_bitmap.specs.declared.fault.BitmapFault.TheVariants as bitmap
use Rattle.md_super.specs.declared.fault.SuperFault.{SuperFault}
use Rattle.md_super.specs.declared.fault.SuperFault.TheVariants as super
use Rattle.md_members.specs.declared.fault.MemberFault.{MemberFault}
use Rattle.md_members.specs.declared.fault.MemberFault.TheVariants as member

abbrev pub super_text : SuperFault → List ℕ
super_text super.Magic = codes "Magic"
super_text super.Major = codes "Major"
super_text super.MaxDev = codes "MaxDev"
super_text super.Checksum = codes "Checksum"
super_text super.SuperOffset = codes "SuperOffset"
super_text (super.Feature bits) = codes "Feature " ++ decimal bits
super_text super.Level = codes "Level"
super_text super.RaidDisks = codes "RaidDisks"
super_text super.NoMemory = codes "NoMemory"

abbrev pub bitmap_refusal_text : BitmapFault → List ℕ
bitmap_refusal_text bitmap.Magic = codes "Magic"
bitmap_refusal_text bitmap.Version = codes "Version"
bitmap_refusal_text bitmap.ChunkSize = codes "ChunkSize"
bitmap_refusal_text bitmap.TooManyChunks = codes "TooManyChunks"

abbrev pub log_refusal_text : LogFault → List ℕ
log_refusal_text log.Shift = codes "Shift"
log_refusal_text log.NoMemory = codes "NoMemory"

-- the part of the member that is refused, and why
abbrev pub member_refusal_text : MemberFault → List ℕ
member_refusal_text member.TooShort = codes "TooShort"
member_refusal_text member.ReadFault = codes "ReadFault"
member_refusal_text (member.Super why) = codes "Super " ++ super_text why
member_refusal_text member.Region = codes "Region"
member_refusal_text (member.Bitmap why) = codes "Bitmap " ++ bitmap_refusal_text why
member_refusal_text (member.Log why) = codes "Log " ++ log_refusal_text why
member_refusal_text member.NoMemory = codes "NoMemory"
