use Rattle.std.proofs.Common.{◌≡◌, ℕ, ◌<◌, None, get_or, length}
use Rattle.md_notices.specs.ListedSectors.{longer_list_at}
use Rattle.md_notices.proofs.listed_sectors.members_listing_more.Given as goal

abbrev pub invariant-loop-k : goal.invariant-loop-k
invariant-loop-k g l = record {
  size : length l.more ≡ 64;
  so : (i : ℕ) → i < l.k → get_or l.more i None ≡ longer_list_at l.was l.mirror.array.members l.asked i;
}
