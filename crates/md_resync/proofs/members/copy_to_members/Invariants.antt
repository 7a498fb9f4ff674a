use Rattle.std.proofs.Common.{◌≡◌, length}
use Rattle.md_resync.specs.Copying.{GivesBelow}
use Rattle.md_resync.proofs.members.copy_to_members.Given as goal

abbrev pub invariant-loop-k : goal.invariant-loop-k
invariant-loop-k g l =
    record {
      below : GivesBelow l.k l.sector l.bytes l.fn.mirror l.mirror;
      held_long : length l.held ≡ length l.fn.held;
    }
