-- Members that were read, and in which no fault is found, have a bitmap each.
use Rattle.std.proofs.Common.{◌≡◌, ℕ, Bool, List, Option, Some, None, refl, arith}
use Rattle.std.proofs.lemmas.Option.{slice_get_within}
use Rattle.md_bitmap.specs.declared.header.BitmapHeader.{BitmapHeader}
use Rattle.md_bitmap.specs.Marks.{Bitmap}
use Rattle.md_members.specs.declared.info.MemberInfo.{MemberInfo}
use Rattle.md_members.specs.Members.{HasBitmap}
use Rattle.md_assembly.specs.Faults.{NoAssembleFault}
use Rattle.md_assembly.proofs.Indices.{got_within}
use Rattle.md_kept_members.specs.Remembering.{AreWhole, IsWhole}
use Rattle.md_state.specs.View.{Disk}
use Rattle.md_state.proofs.Kept.Geometry.{has_bitmap}
use Rattle.md_array.specs.Open.Members.{AreRead}

pub whole_by : (content : List ℕ) (honest : Bool) (info : MemberInfo) (h : Option BitmapHeader) (m : Option Bitmap) → info.header ≡ h → info.marks ≡ m → HasBitmap content honest info.superblock h m → (h ≡ None → ⊥) → IsWhole info
whole_by content honest info (Some h) (Some m) has_h has_m read some = record {
  header = h;
  marks = m;
  has_header = has_h;
  has_marks = has_m;
  counted = read.1.marks.chunks_are;
  few_chunks = read.1.few_chunks;
}
whole_by content honest info (Some h) None has_h has_m read some = absurd read
whole_by content honest info None m has_h has_m read some = absurd (some refl)

pub are_whole : (disks : List Disk) (infos : List MemberInfo) → AreRead disks infos → NoAssembleFault infos → AreWhole infos
are_whole disks infos read sound k info listed =
    let within = slice_get_within infos k info listed in
    let as_many = read.as_many in
    let disk = got_within disks k (omega arith) in
    let member = read.each k disk.0 info disk.1 listed in
    whole_by disk.0.content disk.0.honest info info.header info.marks refl refl member.bitmap (has_bitmap infos k info sound listed)
