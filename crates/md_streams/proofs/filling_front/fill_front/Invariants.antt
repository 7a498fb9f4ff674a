use Rattle.std.proofs.Common.{◌≡◌, ◌-◌, ◌≤◌, length, take}
use Rattle.md_streams.specs.Source.{Gives}
use Rattle.md_streams.proofs.filling_front.fill_front.Given as goal

abbrev pub invariant-loop-filled : goal.invariant-loop-filled
invariant-loop-filled g l = record {
  few : l.filled ≤ length l.buf;
  long : length l.buf ≡ length l.fn.buf;
  gives : Gives g.I.Source.remaining g.I.Source.failed l.fn.input l.input (take l.filled l.buf);
}

abbrev pub decreases-loop-filled : goal.decreases-loop-filled
decreases-loop-filled g l = length l.buf - l.filled
