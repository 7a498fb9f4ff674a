use Rattle.std.proofs.Common.{rules}
use Rattle.std.proofs.lemmas.List.FromFn.{fill_by_all}
use Rattle.md_notices.specs.ListedSectors.{sector_count_at}
use Rattle.md_notices.proofs.listed_sectors.members_listing.Goals as goal

pub returns : goal.returns
returns g c = fill_by_all (sector_count_at c.args.mirror.now.array.members) c.loop-k.listed 64 0 c.loop-k.invariant.size (search rules)
