-- One write to the device of a member.
use Rattle.std.proofs.Common.{◌≡◌, ℕ, ◌<◌, List, [], ◌∷◌, length, get_or, map, sym, subst, arith}
use Rattle.std.specs.Prelude.{Result}
use Rattle.std.proofs.lemmas.List.{length-map}
use Rattle.md_device.specs.declared.device.Device.{Ghosts}
use Rattle.md_members.specs.DeviceWrites.Writes.{DoesWrites, FailsInWrites, Write}
use Rattle.md_kept_members.specs.View.{MemberView}
use Rattle.md_kept_members.specs.OnDevices.OneOfMany.{WritesAlone}
use Rattle.md_state.specs.View.{ArrayView, Disk, MirrorView, disk_of}
use Rattle.md_state.specs.Members.{IsMember}
use Rattle.md_state.specs.DiskWrites.{IsFailed, IsWritten}
use Rattle.md_array.specs.Consistency.{IsConsistent}
use Rattle.md_array.specs.Fits.{Fits, FitsMember}
pub use Rattle.md_state.proofs.OneWrite.{at_device, here, is_failed, is_written}

-- the device at k was read from the list, and fits its member
pub fits_there : {D : Type 0} (g : Ghosts D) (devices : List D) (k : ℕ) (was : D) (read : was ≡ get_or devices k was) (a : ArrayView) (m : MemberView) → k < length devices → Fits (map (disk_of g) devices) a → IsMember a k m → FitsMember a m (disk_of g was)
fits_there g devices k was read a m within fits at = fits.each k (disk_of g was) m (here g devices k was read within) at

-- device k of several was written
module _ {D : Type 0} (g : Ghosts D) (k : ℕ) (w : Write) (old new : List D) {T E : Type 0} (result : Result T E) (on : WritesAlone g k w old new result) (within : k < length old) where
  pub written_on : DoesWrites g (w ∷ []) on.was on.is → IsWritten k w (map (disk_of g) old) (map (disk_of g) new)
  written_on does = subst (λ (xs : List D). IsWritten k w (map (disk_of g) old) (map (disk_of g) xs)) (sym on.has) (is_written g old k on.was on.had on.is w within on.outside does)

  pub failed_on : FailsInWrites g (w ∷ []) on.was on.is → IsFailed k w (map (disk_of g) old) (map (disk_of g) new)
  failed_on stops = subst (λ (xs : List D). IsFailed k w (map (disk_of g) old) (map (disk_of g) xs)) (sym on.has) (is_failed g old k on.was on.had on.is w within on.outside stops)

-- the mirror is consistent, and member k is one of it
module _ {D : Type 0} (disk : D → Disk) (devices : List D) (a : ArrayView) (old : MirrorView) (k : ℕ) (view : ◌≡◌ {A = MirrorView} (record { disks = map disk devices; array = a }) old)
    (consistent : IsConsistent old) (inside : k < length old.array.members) where
  pub fits_now : Fits (map disk devices) a
  fits_now = let sound = subst IsConsistent (sym view) consistent in sound.fits

  pub within_members : k < length a.members
  within_members = subst (λ (v : MirrorView). k < length v.array.members) (sym view) inside

  pub within_devices : k < length devices
  within_devices = let many = fits_now.as_many in let within = within_members in omega (arith, length-map devices disk)
