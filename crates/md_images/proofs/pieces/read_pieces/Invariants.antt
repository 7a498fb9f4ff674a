use Rattle.std.proofs.Common.{◌≡◌, ◌-◌, ◌%◌, ◌≤◌, length, take, true}
use Rattle.md_device.specs.Crashes.{LeavesMore}
use Rattle.md_device.specs.Device.{held}
use Rattle.md_images.proofs.pieces.read_pieces.Given as goal

abbrev pub decreases-loop-done : goal.decreases-loop-done
decreases-loop-done g l = length l.buf - l.done

abbrev pub invariant-loop-done : goal.invariant-loop-done
invariant-loop-done g l = record {
  whole : l.done % 512 ≡ 0;
  few : l.done ≤ length l.buf;
  long : length l.buf ≡ length l.fn.buf;
  kept : g.D.Device.content l.device ≡ g.D.Device.content l.fn.device;
  honest : g.D.Device.honest l.device ≡ g.D.Device.honest l.fn.device;
  faults : g.D.Device.faults l.device ≡ g.D.Device.faults l.fn.device;
  gave : g.D.Device.honest l.fn.device ≡ true → take l.done l.buf ≡ held (g.D.Device.content l.fn.device) l.sector l.done;
  within : g.D.Device.honest l.fn.device ≡ true → LeavesMore (g.D.Device.crashes l.fn.device) (g.D.Device.crashes l.device) (λ left. left ≡ g.D.Device.content l.fn.device);
}
