-- Nothing was written: devices may have been read, and some of these reads may have failed.
use Rattle.std.specs.Prelude.{◌≡◌}
use Rattle.md_state.specs.View.{MirrorView}
use Rattle.md_state.specs.DeviceChanges.{IsUntouched}

-- The array is as it was, and each device holds what it held. A crash leaves nothing else.
pub record Rests (old new : MirrorView) : Type 0 where
  pub array : new.array ≡ old.array
  pub disks : IsUntouched old.disks new.disks
