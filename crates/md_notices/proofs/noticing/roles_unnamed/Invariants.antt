use Rattle.std.proofs.Common.{◌≡◌, ℕ, ◌<◌, None, get_or, length}
use Rattle.md_notices.specs.Noticing.{IsUnnamedAt}
use Rattle.md_notices.proofs.noticing.roles_unnamed.Given as goal

abbrev pub invariant-loop-role : goal.invariant-loop-role
invariant-loop-role g l = record {
  size : length l.unnamed ≡ 32;
  so : (i : ℕ) → i < l.role → IsUnnamedAt l.mirror.array l.joining i (get_or l.unnamed i None);
}
