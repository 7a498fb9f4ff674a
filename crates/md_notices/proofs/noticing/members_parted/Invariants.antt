use Rattle.std.proofs.Common.{◌≡◌, ℕ, ◌<◌, false, get_or, length}
use Rattle.md_notices.specs.Noticing.{is_parted_at}
use Rattle.md_notices.proofs.noticing.members_parted.Given as goal

abbrev pub invariant-loop-k : goal.invariant-loop-k
invariant-loop-k g l = record {
  size : length l.parted ≡ 64;
  so : (i : ℕ) → i < l.k → get_or l.parted i false ≡ is_parted_at l.mirror.array.members i;
}
