use Rattle.std.proofs.Common.{◌≡◌, false}
use Rattle.md_state.specs.Requests.{IsPending}
use Rattle.md_metadata.specs.Going.{recorded_count}
use Rattle.md_write.specs.Progress.{AdvancesRequest, AreChunksOf, Part}
use Rattle.md_write.proofs.whole_write.write.Given as goal

abbrev pub decreases-loop-pending : goal.decreases-loop-pending
decreases-loop-pending g l = recorded_count l.mirror.array

abbrev pub invariant-loop-pending : goal.invariant-loop-pending
invariant-loop-pending g l =
    record {
      advances : AdvancesRequest Part.Marks Part.Marks l.initial.pending l.pending l.initial.mirror l.mirror;
      still : IsPending l.mirror.array l.pending;
      running : l.mirror.array.halted ≡ false;
      around : AreChunksOf l.mirror.array l.pending l.first l.end;
    }
