use Rattle.std.proofs.Common.{◌≡◌, ◌≤◌, ◌<◌, ℕ, take}
use Rattle.std.specs.List.{list_all}
use Rattle.md_notices.specs.LostSectors.{lists_if_in_sync}
use Rattle.md_notices.proofs.lost_sectors.stretch_at.Given as goal

abbrev pub invariant-loop-k : goal.invariant-loop-k
invariant-loop-k g l = record {
  some : l.at < l.stretch.1;
  within : l.stretch.1 ≤ l.to;
  alike : (s : ℕ) → l.at ≤ s → s < l.stretch.1 → list_all (lists_if_in_sync s) (take l.k l.mirror.array.members) ≡ l.stretch.0;
}
