-- One write to one of several devices.
use Rattle.std.specs.Prelude.{◌≡◌, ℕ, ◌*◌, List, [], ◌∷◌, length, set, Result}
use Rattle.std.proofs.Common.{get_or}
use Rattle.md_device.specs.declared.device.Device.{Ghosts}
use Rattle.md_device.specs.Splice.{SameOutside}
use Rattle.md_members.specs.DeviceWrites.Writes.{MakesWrites, Write}

-- Device k was written, and no other one was used.
pub record WritesAlone {D : Type 0} (g : Ghosts D) (k : ℕ) (w : Write) (old new : List D) {T E : Type 0} (result : Result T E) : Type 0 where
  pub was : D
  pub had : was ≡ get_or old k was
  pub is : D
  pub has : new ≡ set old k is
  pub makes : MakesWrites g (w ∷ []) was is result
  pub outside : SameOutside (512 * w.sector) (length w.bytes) (g.content was) (g.content is)
