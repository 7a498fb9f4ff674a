use Rattle.std.proofs.Common.{◌≡◌, ◌-◌, ◌≤◌}
use Rattle.md_notices.specs.LostSectors.{lost_before}
use Rattle.md_notices.proofs.lost_sectors.find_lost.Given as goal

abbrev pub decreases-loop-at : goal.decreases-loop-at
decreases-loop-at g l = l.size - l.at

abbrev pub invariant-loop-at : goal.invariant-loop-at
invariant-loop-at g l = record {
  most : l.at ≤ l.size;
  count : l.lost.count ≡ (lost_before l.mirror.array.members l.at).count;
  few : l.lost.count ≤ l.at;
  first : l.lost.first ≡ (lost_before l.mirror.array.members l.at).first;
}
