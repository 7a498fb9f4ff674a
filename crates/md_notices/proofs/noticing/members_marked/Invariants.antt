use Rattle.std.proofs.Common.{◌≡◌, ℕ, ◌<◌, false, get_or, length}
use Rattle.md_notices.specs.Noticing.{WasMarkedAtOpening}
use Rattle.md_notices.proofs.noticing.members_marked.Given as goal

abbrev pub invariant-loop-k : goal.invariant-loop-k
invariant-loop-k g l = record {
  size : length l.marked ≡ 64;
  so : (i : ℕ) → i < l.k → WasMarkedAtOpening l.mirror.array.members i (get_or l.marked i false);
}
