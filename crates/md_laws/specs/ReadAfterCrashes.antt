-- What a crash leaves of a device that comes in or comes back, where its superblock ends within its first sector: that sector is
-- written whole or not at all, and tells what is read.
use Rattle.std.specs.Prelude.{◌≡◌, ◌⊎◌, ℕ, ◌+◌, ◌*◌, ◌≤◌, true, List, [], ◌∷◌, ◌++◌, length, map, replicate, slice_get, Some}
use Rattle.md_bitmap.specs.Marks.{Bitmap}
use Rattle.md_device.specs.Device.{held}
use Rattle.md_device.specs.Crashes.{IsMixed}
use Rattle.md_format.specs.Fields.{number_at}
use Rattle.md_super.specs.declared.superblock.Superblock.{Superblock}
use Rattle.md_super.specs.Encoding.{super_bytes}
use Rattle.md_super.specs.Faults.{NoSuperFault}
use Rattle.md_super.specs.Format.{IsSuper}
use Rattle.md_create.specs.Layout.{KeepsOthers, wipe}
use Rattle.md_state.specs.View.{Disk, MirrorView}
use Rattle.md_array.specs.Steps.Add.{Adds}
use Rattle.md_array.specs.Steps.Admit.{Admits}
use Rattle.md_array.specs.Steps.Checkpoint.{Checkpoints}
use Rattle.md_array.specs.Consistency.{IsConsistent}
use Rattle.md_array.specs.Steps.ReAdd.{ReAdds}
use Rattle.md_array.specs.Worlds.{AreHonest, block_on, super_in}
use Rattle.md_laws.specs.CrashesWithin.{IsLeftBut, MayAllBeLeft}

-- a superblock of at most 128 roles ends within its first sector
abbrev pub EndsInFirstSector : List ℕ → Type 0
EndsInFirstSector block = 256 + 2 * number_at 4 220 block ≤ 512

-- what is read in the one is read in the other
pub record ReadsAs (one other : List ℕ) : Type 0 where
  pub decoded : super_in one ≡ super_in other
  pub map : number_at 4 8 one ≡ number_at 4 8 other
  pub read : (v : Superblock) → IsSuper one v → NoSuperFault one → IsSuper other v × NoSuperFault other

-- A crash at any moment of `re_add` leaves each device of the array as it was. The superblock of the one that
-- is taken back, which stands after them, reads as before the call or as after it.
abbrev pub ReadsAtReAdd : Type 0
ReadsAtReAdd =
    (k : ℕ) (device : Disk) (old new : MirrorView) (left : List (List ℕ)) → AreHonest old.disks → device.honest ≡ true → (r : ReAdds k device old new)
    → EndsInFirstSector (block_on device.content) → EndsInFirstSector (block_on r.recorded.now.content)
    → MayAllBeLeft (old.disks ++ device ∷ []) new.disks left
    → IsLeftBut (length old.disks) (λ was c. ReadsAs (block_on c) (block_on was) ⊎ ReadsAs (block_on c) (block_on r.recorded.now.content)) (old.disks ++ device ∷ []) left

-- A crash at any moment of `add` leaves all as it is after the call; or each device of the array as it was,
-- and the new one, which stands after them, with the wipe of its old superblock cut short, or with zeros in
-- place of one.
abbrev pub ReadsAtAdd : Type 0
ReadsAtAdd =
    (k : ℕ) (device : Disk) (old new : MirrorView) (left : List (List ℕ)) → device.honest ≡ true → (r : Adds k device old new)
    → EndsInFirstSector (super_bytes r.comes.laid.superblock)
    → MayAllBeLeft (old.disks ++ device ∷ []) new.disks left
    → (left ≡ map (λ d. d.content) new.disks)
    ⊎ IsLeftBut (length old.disks) (λ was c. IsMixed 8 wipe.bytes was c ⊎ ((held c 8 4096 ≡ replicate 4096 0) × KeepsOthers r.comes.laid was c)) (old.disks ++ device ∷ []) left

-- `admit` of a member, or `checkpoint`, was done
abbrev pub AdmitsOrCheckpoints : ℕ → MirrorView → MirrorView → Type 0
AdmitsOrCheckpoints k old new = Admits k old new ⊎ ((copied : Bitmap) × Checkpoints k copied old new)

-- the superblock on device k ends within its first sector
abbrev pub EndsOnDevice : ℕ → List Disk → Type 0
EndsOnDevice k disks = (d : Disk) → slice_get disks k ≡ Some d → EndsInFirstSector (block_on d.content)

-- A crash at any moment of either leaves each other device as it was, and the superblock of this one reads as before the call or as
-- after it.
abbrev pub ReadsAtTarget : Type 0
ReadsAtTarget =
    (k : ℕ) (old new : MirrorView) (left : List (List ℕ)) → IsConsistent old → AreHonest old.disks → AdmitsOrCheckpoints k old new
    → EndsOnDevice k old.disks → EndsOnDevice k new.disks → MayAllBeLeft old.disks new.disks left
    → IsLeftBut k (λ was c. ReadsAs (block_on c) (block_on was) ⊎ ((e : Disk) → slice_get new.disks k ≡ Some e → ReadsAs (block_on c) (block_on e.content))) old.disks left
