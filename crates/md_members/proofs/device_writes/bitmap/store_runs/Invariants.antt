use Rattle.std.proofs.Common.{◌≤◌, ◌+◌, ◌-◌, ◌*◌}
use Rattle.md_device.specs.Splice.{SameOutside}
use Rattle.md_members.specs.DeviceWrites.Bitmaps.{bitmap_runs}
use Rattle.md_members.proofs.DeviceWriteLemmas.Runs.{AreLeft}
use Rattle.md_members.proofs.device_writes.bitmap.store_runs.Given as goal

abbrev pub invariant-loop-left : goal.invariant-loop-left
invariant-loop-left g l = record {
  left : l.left ≤ l.initial.left;
  writes : AreLeft g.D.Device (bitmap_runs l.start l.header l.marks l.sectors l.initial.left) (bitmap_runs l.start l.header l.marks l.sectors l.left) l.initial.device l.device;
  outside : SameOutside (512 * (l.start + 1)) (512 * (l.sectors - 1)) (g.D.Device.content l.initial.device) (g.D.Device.content l.device);
}

abbrev pub decreases-loop-left : goal.decreases-loop-left
decreases-loop-left g l = l.left
