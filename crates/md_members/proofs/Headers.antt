-- The header that was read.
use Rattle.std.proofs.Common.{◌≡◌, ℕ, ◌*◌, ◌/◌, Bool, List, length, Result, Ok, subst, sym, arith}
use Rattle.std.specs.Prelude.{IfOk, OnOk}
use Rattle.md_super.specs.declared.superblock.Superblock.{Superblock}
use Rattle.md_format.specs.FirstFault.{IsFirst}
use Rattle.md_bitmap.specs.declared.header.BitmapHeader.{BitmapHeader}
use Rattle.md_bitmap.specs.declared.fault.BitmapFault.{BitmapFault}
use Rattle.md_bitmap.specs.Header.{IsHeader}
use Rattle.md_bitmap.specs.Faults.{BitmapFaultStands, bitmap_fault_place, NoneStands}
use Rattle.md_bitmap.specs.Marks.{Bitmap}
use Rattle.md_members.specs.Areas.{AreAreasPlaced}
use Rattle.md_members.specs.Reading.{BitmapStartsAt, IsMarks, IsRead, ReadsHeader, ReadsHeaderFault, front_of}

pub header_read : (content : List ℕ) (honest : Bool) (v : Superblock) (h : BitmapHeader) (start : ℕ) (sector front : List ℕ) (own : Result BitmapHeader BitmapFault) → own ≡ Ok h
    → BitmapStartsAt v start → IsRead content honest start 512 sector → front ≡ front_of sector → IfOk own (λ x. IsHeader front x) → OnOk own (NoneStands front) → ReadsHeader content honest v h
header_read content honest v h start sector front own is at read e fields sound = record {
  start = start;
  at = at;
  sector = sector;
  read = read;
  fields = subst (λ (bytes : List ℕ). IsHeader bytes h) e (subst (λ (r : Result BitmapHeader BitmapFault). IfOk r (λ x. IsHeader front x)) is fields);
  sound = subst (λ (bytes : List ℕ). NoneStands bytes) e (subst (λ (r : Result BitmapHeader BitmapFault). OnOk r (NoneStands front)) is sound);
}

pub header_refused : (content : List ℕ) (honest : Bool) (v : Superblock) (f : BitmapFault) (start : ℕ) (sector front : List ℕ) → BitmapStartsAt v start → IsRead content honest start 512 sector → front ≡ front_of sector → IsFirst (BitmapFaultStands front) bitmap_fault_place f → ReadsHeaderFault content honest v f
header_refused content honest v f start sector front at read e first = record {
  start = start;
  at = at;
  sector = sector;
  read = read;
  first = subst (λ (bytes : List ℕ). IsFirst (BitmapFaultStands bytes) bitmap_fault_place f) e first;
}

-- the sectors of a device, by its content
pub placed_by : (content : List ℕ) (v : Superblock) (sectors width all : ℕ) → length content ≡ 512 * sectors → all ≡ width → AreAreasPlaced sectors v all → AreAreasPlaced (length content / 512) v width
placed_by content v sectors width all size e p =
    let count : sectors ≡ length content / 512 = omega arith in
    subst (λ (n : ℕ). AreAreasPlaced n v width) count (subst (λ (n : ℕ). AreAreasPlaced sectors v n) e p)

pub placed_of : (content : List ℕ) (v : Superblock) (sectors width all : ℕ) → length content ≡ 512 * sectors → all ≡ width → AreAreasPlaced (length content / 512) v width → AreAreasPlaced sectors v all
placed_of content v sectors width all size e p =
    let count : length content / 512 ≡ sectors = omega arith in
    subst (λ (n : ℕ). AreAreasPlaced sectors v n) (sym e) (subst (λ (n : ℕ). AreAreasPlaced n v width) count p)

-- the marks, where the device and the numbers are the same
pub marks_as : (old new : List ℕ) (was is : Bool) (start chunks count sectors width : ℕ) (m : Bitmap) → new ≡ old → is ≡ was → chunks ≡ count → sectors ≡ width → IsMarks new is start chunks sectors m → IsMarks old was start count width m
marks_as old new was is start chunks count sectors width m content honest counted wide marks =
    subst (λ (n : ℕ). IsMarks old was start count n m) wide
    (subst (λ (n : ℕ). IsMarks old was start n sectors m) counted
    (subst (λ (b : Bool). IsMarks old b start chunks sectors m) honest
    (subst (λ (bytes : List ℕ). IsMarks bytes is start chunks sectors m) content marks)))
