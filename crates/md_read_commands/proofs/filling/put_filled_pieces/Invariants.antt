use Rattle.std.proofs.Common.{◌≡◌, ◌-◌, ◌≤◌, length}
use Rattle.md_array.specs.Consistency.{IsConsistent}
use Rattle.md_streams.specs.Gaps.{AreTold}
use Rattle.md_read_commands.specs.Holes.{HasSameRoom}
use Rattle.md_read_commands.proofs.FilledPut.{FilledSoFar}
use Rattle.md_read_commands.proofs.filling.put_filled_pieces.Given as goal

abbrev pub decreases-loop-done : goal.decreases-loop-done
decreases-loop-done g l = l.asked.count - l.done

abbrev pub invariant-loop-done : goal.invariant-loop-done
invariant-loop-done g l = record {
  so_far : FilledSoFar g.S.Sink l.asked.way l.asked.sector l.done l.gaps l.fn.mirror l.mirror l.fn.out l.out;
  sound : IsConsistent l.mirror;
  array : l.mirror.array ≡ l.fn.mirror.array;
  long : length l.buffer ≡ length l.fn.buffer;
  few : l.done ≤ l.asked.count;
  holes : HasSameRoom l.fn.holes l.holes;
  told : AreTold (g.W.FillWatch.misses l.watch) (g.W.FillWatch.takes l.watch) l.gaps;
}
