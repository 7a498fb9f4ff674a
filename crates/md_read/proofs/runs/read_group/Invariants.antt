use Rattle.std.proofs.Common.{◌≡◌, ◌/◌, false, length}
use Rattle.md_array.specs.Consistency.{IsConsistent}
use Rattle.md_read.proofs.RunsRead.{ListedBelow, NoneBelow}
use Rattle.md_read.proofs.runs.read_group.Given as goal

abbrev pub invariant-loop-role : goal.invariant-loop-role
invariant-loop-role g l =
    record {
      none : NoneBelow l.mostly l.role l.sector (length l.fn.buf / 512) l.fn.mirror l.mirror;
      listed : l.has_failed ≡ false → ListedBelow l.mostly l.role l.sector (length l.fn.buf / 512) l.fn.mirror.array;
      sound : IsConsistent l.mirror;
      long : length l.buf ≡ length l.fn.buf;
    }
