use Rattle.std.proofs.Common.{◌≡◌, ℕ, ◌<◌, false, get_or, length}
use Rattle.md_notices.specs.Noticing.{is_dropped_at}
use Rattle.md_notices.proofs.noticing.members_dropped.Given as goal

abbrev pub invariant-loop-k : goal.invariant-loop-k
invariant-loop-k g l = record {
  size : length l.dropped ≡ 64;
  so : (i : ℕ) → i < l.k → get_or l.dropped i false ≡ is_dropped_at l.was l.mirror.array.members l.asked i;
}
