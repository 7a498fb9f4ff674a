use Rattle.std.proofs.Common.{◌≡◌, ℕ, ◌<◌, get_or, length}
use Rattle.md_notices.specs.ListedSectors.{sector_count_at}
use Rattle.md_notices.proofs.listed_sectors.members_listing.Given as goal

abbrev pub invariant-loop-k : goal.invariant-loop-k
invariant-loop-k g l = record {
  size : length l.listed ≡ 64;
  so : (i : ℕ) → i < l.k → get_or l.listed i 0 ≡ sector_count_at l.mirror.array.members i;
}
