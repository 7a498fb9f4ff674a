use Rattle.std.proofs.Common.{◌+◌, ◌*◌, ◌-◌, ◌≤◌, length}
use Rattle.md_streams.specs.Source.{Gives}
use Rattle.md_commands.proofs.input.read_pieces.Given as goal

abbrev pub invariant-loop-input : goal.invariant-loop-input
invariant-loop-input g l = record {
  gives : Gives g.I.Source.remaining g.I.Source.failed l.fn.input l.input l.bytes.items;
  few : length l.bytes.items ≤ 512 * l.size + 1;
}

abbrev pub decreases-loop-input : goal.decreases-loop-input
decreases-loop-input g l = 512 * l.size + 1 - length l.bytes.items
