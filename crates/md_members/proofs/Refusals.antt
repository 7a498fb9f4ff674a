-- What a step of reading says, once the steps before it are counted in.
use Rattle.std.proofs.Common.{◌≡◌, ◌≤◌, ◌*◌, ℕ, Bool, List, Option, inr, subst, true}
use Rattle.std.proofs.Math.Logic.{⊎_map}
use Rattle.md_device.specs.declared.fault_list.Fault.{Fault}
use Rattle.md_super.specs.declared.superblock.Superblock.{Superblock}
use Rattle.md_bitmap.specs.declared.header.BitmapHeader.{BitmapHeader}
use Rattle.md_bitmap.specs.Marks.{Bitmap}
use Rattle.md_badblocks.specs.declared.run.Run.{Run}
use Rattle.md_members.specs.declared.fault.MemberFault.{MemberFault}
use Rattle.md_members.specs.declared.fault.MemberFault.TheVariants.{NoMemory, ReadFault}
use Rattle.md_members.specs.Areas.{AreAreasPlaced, bitmap_sectors, has_bitmap}
use Rattle.md_members.specs.Reading.{BitmapStartsAt, IsReadOf, ReadsHeader, RefusesBitmap, RefusesLog, RefusesMarks, chunks_of}
use Rattle.md_members.specs.Members.{HasBadSet, HasBitmap, RefusesRest, by_bitmap, by_log, reads_log, sectors_of_device}

-- what was said of each failed call, said of another moment
abbrev Moves : ((Fault → Type 0) → Type 0) → ((Fault → Type 0) → Type 0) → Type 1
Moves Failed Later = (P : Fault → Type 0) → Failed P → Later P

bitmap_later : (content : List ℕ) (honest : Bool) (Failed Later : (Fault → Type 0) → Type 0) (sectors : ℕ) (v : Superblock) → Moves Failed Later → (f : MemberFault) → RefusesBitmap content honest Failed sectors v f → RefusesBitmap content honest Later sectors v f
bitmap_later content honest Failed Later sectors v later ReadFault r = record {
  start = r.start;
  at = r.at;
  failed = ⊎_map (later (IsReadOf r.start 512)) (λ x. (x.0, x.1, later _ x.2)) r.failed;
}
bitmap_later content honest Failed Later sectors v later _ r = r

log_later : (Failed Later : (Fault → Type 0) → Type 0) (v : Superblock) → Moves Failed Later → (f : MemberFault) → RefusesLog Failed v f → RefusesLog Later v f
log_later Failed Later v later ReadFault r = (r.0, r.1, later _ r.2)
log_later Failed Later v later _ r = r

-- the marks are not read, though the header was
pub bitmap_by_marks : (content : List ℕ) (honest : Bool) (Failed Later : (Fault → Type 0) → Type 0) (sectors : ℕ) (v : Superblock) (h : BitmapHeader) (start all : ℕ) (f : MemberFault) → Moves Failed Later
    → BitmapStartsAt v start → all ≡ bitmap_sectors (chunks_of v h)
    → ReadsHeader content honest v h → chunks_of v h ≤ 1048576 → AreAreasPlaced sectors v (bitmap_sectors (chunks_of v h)) → RefusesMarks Failed start all f → RefusesBitmap content honest Later sectors v f
bitmap_by_marks content honest Failed Later sectors v h start all ReadFault later at width header few placed refused = record {
  start = start;
  at = at;
  failed = inr (h, record { header = header; few_chunks = few; placed = placed }, later _ (subst (λ (n : ℕ). Failed (IsReadOf start (512 * n))) width refused));
}
bitmap_by_marks content honest Failed Later sectors v h start all NoMemory later at width header few placed refused = (h, header, few, placed)
bitmap_by_marks content honest Failed Later sectors v h start all f later at width header few placed refused = absurd refused

-- the bitmap is refused, on a device that is as it was
pub rest_by_bitmap : (old new : List ℕ) (was is : Bool) (Failed Later : (Fault → Type 0) → Type 0) (v : Superblock) (f : MemberFault) → new ≡ old → is ≡ was → Moves Failed Later → AreAreasPlaced (sectors_of_device new) v 1 → (has_bitmap v ≡ true) × RefusesBitmap new is Failed (sectors_of_device new) v f → RefusesRest old was Later v f
rest_by_bitmap old new was is Failed Later v f content honest later placed refused =
    let there : RefusesRest new is Later v f = by_bitmap placed refused.0 (bitmap_later new is Failed Later (sectors_of_device new) v later f refused.1) in
    subst (λ (b : Bool). RefusesRest old b Later v f) honest (subst (λ (bytes : List ℕ). RefusesRest bytes is Later v f) content there)

-- the log is
pub rest_by_log : (old new : List ℕ) (was is : Bool) (Failed Later : (Fault → Type 0) → Type 0) (v : Superblock) (h : Option BitmapHeader) (m : Option Bitmap) (f : MemberFault) → new ≡ old → is ≡ was → Moves Failed Later → AreAreasPlaced (sectors_of_device old) v 1 → HasBitmap new is v h m → (reads_log v ≡ true) × RefusesLog Failed v f → RefusesRest old was Later v f
rest_by_log old new was is Failed Later v h m f content honest later place bitmap refused =
    let there : HasBitmap old was v h m = subst (λ (b : Bool). HasBitmap old b v h m) honest (subst (λ (bytes : List ℕ). HasBitmap bytes is v h m) content bitmap) in
    by_log place h m there refused.0 (log_later Failed Later v later f refused.1)

pub bitmap_as : (old new : List ℕ) (was is : Bool) (v : Superblock) (h : Option BitmapHeader) (m : Option Bitmap) → new ≡ old → is ≡ was → HasBitmap new is v h m → HasBitmap old was v h m
bitmap_as old new was is v h m content honest bitmap =
    subst (λ (b : Bool). HasBitmap old b v h m) honest (subst (λ (bytes : List ℕ). HasBitmap bytes is v h m) content bitmap)

pub bad_set_as : (old new : List ℕ) (was is : Bool) (v : Superblock) (bad : List Run) → new ≡ old → is ≡ was → HasBadSet new is v bad → HasBadSet old was v bad
bad_set_as old new was is v bad content honest set =
    subst (λ (b : Bool). HasBadSet old b v bad) honest (subst (λ (bytes : List ℕ). HasBadSet bytes is v bad) content set)
