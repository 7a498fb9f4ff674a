-- What stands on a device where its bitmap was put.
use Rattle.std.proofs.Common.{◌≡◌, ℕ, ◌+◌, ◌*◌, ◌<◌, ◌≤◌, List, [], ◌∷◌, length, Result, Ok, Err, OnOk, OnErr, inl, inr, sym, ◌∙◌, arith, subst}
use Rattle.md_device.specs.declared.device.Device.{Ghosts}
use Rattle.md_device.specs.Splice.{SameOutside, spliced}
use Rattle.md_device.proofs.Splices.{part-spliced, part_before, part_after, spliced_outside}
use Rattle.md_super.specs.declared.superblock.Superblock.{Superblock}
use Rattle.md_super.specs.Encoding.{super_bytes}
use Rattle.md_super.specs.Merge.{merged}
use Rattle.md_members.specs.DeviceWrites.Bitmaps.{bitmap_writes}
use Rattle.md_members.specs.DeviceWrites.Writes.{DoesWrites, FailsInWrites, MakesWrites, Write, after}
use Rattle.md_members.proofs.DeviceWriteLemmas.Frames.{outside_around}
use Rattle.md_members.proofs.DeviceWriteLemmas.Runs.{after-append, does_then, stops_then}
use Rattle.md_members.proofs.DeviceWriteLemmas.Stored.{AreStored, stored_all}
use Rattle.md_kept_members.specs.OnDevices.Superblocks.{IsReadable, own_write}
use Rattle.md_state.specs.View.{Disk, disk_of, of_disks}
use Rattle.md_metadata.specs.declared.bitmap_grow.growth.Growth.{Growth}
use Rattle.md_metadata.specs.Grow.Stored.{FailsInPart, GetsBitmap, GetsSuperblock, IsStored, KeepsAllBeside, GrowsMemberOn, bitmap_part, grow_writes, sectors_of}

-- ---- no other part changes
pub keeps_then : (start n : ℕ) (old mid new : List ℕ) → KeepsAllBeside start n old mid → KeepsAllBeside start n mid new → KeepsAllBeside start n old new
keeps_then start n old mid new first second = record {
  size = second.size ∙ first.size;
  others = λ at count super bitmap. second.others at count super bitmap ∙ first.others at count super bitmap;
}

pub keeps_bitmap : (start n : ℕ) (old new : List ℕ) → SameOutside (512 * start) (512 * n) old new → KeepsAllBeside start n old new
keeps_bitmap start n old new same = record {
  size = same.size;
  others = λ at count super bitmap. elim bitmap [
    | inl before ↦ part_before same at count before
    | inr behind ↦ part_after same at count (omega arith)
  ];
}

pub keeps_super : (start n : ℕ) (old new : List ℕ) → SameOutside (512 * 8) 4096 old new → KeepsAllBeside start n old new
keeps_super start n old new same = record {
  size = same.size;
  others = λ at count super bitmap. elim super [
    | inl before ↦ part_before same at count before
    | inr behind ↦ part_after same at count (omega arith)
  ];
}

-- ---- what its parts hold
module _ (g : Growth) (own : Superblock) (old : List ℕ) (after_super : 16 ≤ g.start) (some : 0 < sectors_of g) (room : 512 * (g.start + sectors_of g) ≤ length old)
    (long : length (super_bytes (merged g.shared own)) ≡ 4096) where
  abbrev n : ℕ
  n = sectors_of g

  abbrev mid : List ℕ
  mid = after old (bitmap_writes g.start g.header g.marks n)

  abbrev new : List ℕ
  new = spliced mid (512 * 8) (super_bytes (merged g.shared own))

  bitmap : AreStored g.start g.header g.marks 0 n old mid
  bitmap = stored_all g.start g.header g.marks n old some room

  bitmap_outside : SameOutside (512 * g.start) (512 * n) old mid
  bitmap_outside = outside_around bitmap.outside (512 * g.start) (512 * n) (omega arith) (omega arith)

  named : SameOutside (512 * 8) 4096 mid new
  named = spliced_outside mid (512 * 8) (super_bytes (merged g.shared own)) 4096 (sym long) (omega (arith, bitmap.outside.size))

  there : IsStored g own old new
  there = record {
    superblock = part-spliced mid (512 * 8) (super_bytes (merged g.shared own)) 4096 (sym long) (omega (arith, bitmap.outside.size));
    bitmap = λ i below. part_after named (512 * (g.start + i)) 512 (omega arith) ∙ bitmap.each i (omega arith) below;
    kept = keeps_then g.start n old mid new (keeps_bitmap g.start n old mid bitmap_outside) (keeps_super g.start n mid new named);
  }

  pub stored : IsStored g own old (after old (grow_writes g own))
  stored = subst (IsStored g own old) (sym (after-append old (bitmap_writes g.start g.header g.marks n) (own_write g.shared own ∷ []))) there

-- ---- what came of its writes
-- a device that was told as its view
module _ {D : Type 0} (d : Ghosts D) (ws : List Write) (old new : D) where
  does_as_disk : DoesWrites d ws old new → DoesWrites of_disks ws (disk_of d old) (disk_of d new)
  does_as_disk does = record {
    kept = record { size = does.kept.size; honest_kept = does.kept.honest_kept; counted = does.kept.counted; grown = does.kept.grown };
    unfailing = does.unfailing;
    none_failed = does.none_failed;
    all_done = does.all_done;
    within = does.within;
  }

  fails_as_disk : FailsInWrites d ws old new → FailsInWrites of_disks ws (disk_of d old) (disk_of d new)
  fails_as_disk stops = record {
    kept = record { size = stops.kept.size; honest_kept = stops.kept.honest_kept; counted = stops.kept.counted; grown = stops.kept.grown };
    failed = stops.failed;
    done = stops.done;
    tried = stops.tried;
    rest = stops.rest;
    order = stops.order;
    tried_alone_failed = stops.tried_alone_failed;
    outside = stops.outside;
    within = stops.within;
  }

  pub made_as_disk : {T E : Type 0} (result : Result T E) → MakesWrites d ws old new result → MakesWrites of_disks ws (disk_of d old) (disk_of d new) result
  made_as_disk (Ok x) does = does_as_disk does
  made_as_disk (Err e) stops = fails_as_disk stops

module _ (g : Growth) (d e : Disk) (kept : KeepsAllBeside g.start (sectors_of g) d.content e.content) {T E : Type 0} where
  pub gets_bitmap : (result : Result T E) → MakesWrites of_disks (bitmap_part g) d e result → OnOk result (GetsBitmap g d e)
  gets_bitmap (Ok x) does = record { writes = does; kept = kept }
  gets_bitmap (Err f) stops = tt

  pub gets_superblock : (own : Superblock) → IsReadable (merged g.shared own) → (result : Result T E) → MakesWrites of_disks (own_write g.shared own ∷ []) d e result → OnOk result (GetsSuperblock g own d e)
  gets_superblock own readable (Ok x) does = record { writes = does; kept = kept; readable = readable }
  gets_superblock own readable (Err f) stops = tt

  pub fails_in_part : (ws : List Write) (result : Result T E) → MakesWrites of_disks ws d e result → OnErr result (FailsInPart g ws d e)
  fails_in_part ws (Ok x) does = tt
  fails_in_part ws (Err f) stops = record { stops = stops; kept = kept }

-- the bitmap, and then the superblock
module _ (g : Growth) (own : Superblock) (d m e : Disk) (bitmap : GetsBitmap g d m) where
  abbrev naming : List Write
  naming = own_write g.shared own ∷ []

  pub grows : 16 ≤ g.start → 0 < sectors_of g → 512 * (g.start + sectors_of g) ≤ length d.content → GetsSuperblock g own m e → GrowsMemberOn g own d e
  grows after_super some room superblock =
      let does = does_then of_disks (bitmap_part g) naming d m e bitmap.writes superblock.writes in
      record {
        stored = λ honest. subst (IsStored g own d.content) (sym (does.all_done honest)) (stored g own d.content after_super some room superblock.readable.size);
        within = does.within;
        readable = superblock.readable;
      }

  pub fails_naming : FailsInPart g naming m e → FailsInPart g (grow_writes g own) d e
  fails_naming fails = record {
    stops = stops_then of_disks (bitmap_part g) naming d m e bitmap.writes fails.stops;
    kept = keeps_then g.start (sectors_of g) d.content m.content e.content bitmap.kept fails.kept;
  }
