use Rattle.std.proofs.Common.{◌≡◌, ◌-◌, length}
use Rattle.md_resync.proofs.CopiedChunks.{CopiesBelow}
use Rattle.md_resync.proofs.chunks.copy_marked.Given as goal

abbrev pub decreases-loop-sector : goal.decreases-loop-sector
decreases-loop-sector g l = l.size - l.sector

abbrev pub invariant-loop-sector : goal.invariant-loop-sector
invariant-loop-sector g l =
    record {
      below : CopiesBelow l.sector l.fn.mirror l.mirror;
      long : length l.buffer ≡ length l.fn.buffer;
      held_long : length l.held ≡ length l.fn.held;
    }
