use Rattle.std.proofs.Common.{◌≡◌, ◌*◌, ◌-◌, ◌/◌, ◌<◌, ◌≤◌, length, take}
use Rattle.md_array.specs.Consistency.{IsConsistent}
use Rattle.md_read_commands.specs.Filling.{FillsMore}
use Rattle.md_streams.specs.Gaps.{AreFitGaps}
use Rattle.md_read_commands.specs.Holes.{HasFewMore, HasSameRoom, gaps_of}
use Rattle.md_read_commands.proofs.filling.fill_piece.Given as goal

abbrev pub decreases-loop-done : goal.decreases-loop-done
decreases-loop-done g l = length l.fn.piece / 512 - l.done

abbrev pub invariant-loop-done : goal.invariant-loop-done
invariant-loop-done g l = record {
  more : FillsMore l.way l.sector (take (512 * l.done) l.piece) (gaps_of l.fn.holes) (gaps_of l.holes) l.fn.mirror l.mirror;
  sound : IsConsistent l.mirror;
  array : l.mirror.array ≡ l.fn.mirror.array;
  long : length l.piece ≡ length l.fn.piece;
  few : l.done ≤ length l.fn.piece / 512;
  some : l.done < length l.fn.piece / 512 → 0 < l.most;
  most : HasFewMore l.done l.fn.holes l.holes;
  room : HasSameRoom l.fn.holes l.holes;
  fit : AreFitGaps (gaps_of l.holes);
}
