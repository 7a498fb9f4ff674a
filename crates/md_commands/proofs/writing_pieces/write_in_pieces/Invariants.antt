use Rattle.std.proofs.Common.{◌≡◌, ◌*◌, ◌-◌, ◌+◌, ◌/◌, ◌<◌, ◌≤◌, ◌^◌, length, min}
use Rattle.md_inflight.specs.Requests.Pending.{PendingView}
use Rattle.md_array.specs.Consistency.{IsConsistent}
use Rattle.md_state.specs.Requests.{IsPending}
use Rattle.md_commands.specs.WritingPieces.{most_at_once}
use Rattle.md_commands.proofs.PiecesWritten.{WrittenSoFar}
use Rattle.md_commands.proofs.writing_pieces.write_in_pieces.Given as goal

abbrev pub invariant-loop-written : goal.invariant-loop-written
invariant-loop-written g l = record {
  so_far : WrittenSoFar g.I.Source l.sector l.len l.written l.fn.mirror l.mirror l.fn.input l.input;
  few : l.written ≤ l.len / 512;
  room : length l.buffer ≡ 512 * min (l.len / 512) most_at_once;
  fits : l.sector + l.len / 512 < 2 ^ 64;
  sound : IsConsistent l.mirror;
  pending : (p : PendingView) → IsPending l.fn.mirror.array p → IsPending l.mirror.array p;
  told : g.W.Watch.writes l.watch (l.len / 512);
  wrote : g.W.Watch.has_written l.watch l.written;
}

abbrev pub decreases-loop-written : goal.decreases-loop-written
decreases-loop-written g l = l.len / 512 - l.written
