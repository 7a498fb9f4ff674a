use Rattle.std.proofs.Common.{◌≡◌, ℕ, ◌<◌, None, get_or, length}
use Rattle.md_notices.specs.Noticing.{state_at}
use Rattle.md_notices.proofs.noticing.states_of.Given as goal

abbrev pub invariant-loop-k : goal.invariant-loop-k
invariant-loop-k g l = record {
  size : length l.states ≡ 64;
  so : (i : ℕ) → i < l.k → get_or l.states i None ≡ state_at l.mirror.array.members i;
}
