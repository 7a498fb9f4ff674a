use Rattle.std.proofs.Common.{◌≡◌, ◌-◌, ◌%◌, ◌≤◌, length, take, true}
use Rattle.md_device.specs.Device.{held}
use Rattle.md_images.proofs.pieces.read_shared_pieces.Given as goal

abbrev pub decreases-loop-done : goal.decreases-loop-done
decreases-loop-done g l = length l.buf - l.done

abbrev pub invariant-loop-done : goal.invariant-loop-done
invariant-loop-done g l = record {
  whole : l.done % 512 ≡ 0;
  few : l.done ≤ length l.buf;
  long : length l.buf ≡ length l.fn.buf;
  gave : g.D.Device.honest l.device ≡ true → take l.done l.buf ≡ held (g.D.Device.content l.device) l.sector l.done;
}
