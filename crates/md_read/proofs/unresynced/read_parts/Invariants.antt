use Rattle.std.proofs.Common.{◌≡◌, ◌-◌, ◌%◌, ◌<◌, ◌≤◌, length, take}
use Rattle.md_state.specs.Rests.{Rests}
use Rattle.md_array.specs.Consistency.{IsConsistent}
use Rattle.md_read.specs.Unresynced.{GivesParts}
use Rattle.md_read.proofs.unresynced.read_parts.Given as goal

abbrev pub decreases-loop-done : goal.decreases-loop-done
decreases-loop-done g l = length l.fn.buf - l.done

abbrev pub invariant-loop-done : goal.invariant-loop-done
invariant-loop-done g l =
    record {
      rests : Rests l.fn.mirror l.mirror;
      sound : IsConsistent l.mirror;
      long : length l.buf ≡ length l.fn.buf;
      whole : l.done % 512 ≡ 0;
      few : l.done ≤ length l.fn.buf;
      some : l.done < length l.fn.buf → 0 < l.most;
      given : GivesParts l.sector (take l.done l.buf) l.fn.mirror l.mirror;
    }
