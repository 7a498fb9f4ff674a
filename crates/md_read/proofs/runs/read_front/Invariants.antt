use Rattle.std.proofs.Common.{◌≡◌, ◌⊎◌, ◌/◌, ◌<◌, ◌≤◌, length}
use Rattle.md_state.specs.Rests.{Rests}
use Rattle.md_array.specs.Consistency.{IsConsistent}
use Rattle.md_read.specs.Reading.{IsCutFrom}
use Rattle.md_read.proofs.runs.read_front.Given as goal

abbrev pub decreases-loop-sectors : goal.decreases-loop-sectors
decreases-loop-sectors g l = l.sectors

abbrev pub invariant-loop-sectors : goal.invariant-loop-sectors
invariant-loop-sectors g l =
    record {
      rests : Rests l.fn.mirror l.mirror;
      sound : IsConsistent l.mirror;
      long : length l.buf ≡ length l.fn.buf;
      some : 0 < l.sectors;
      few : l.sectors ≤ length l.fn.buf / 512;
      cut : (l.sectors ≡ length l.fn.buf / 512) ⊎ IsCutFrom l.sector l.sectors (length l.fn.buf / 512) l.fn.mirror l.mirror;
    }
