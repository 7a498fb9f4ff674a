use Rattle.std.proofs.Common.{false, rules}
use Rattle.std.proofs.lemmas.List.FromFn.{fill_by_all}
use Rattle.md_notices.specs.Noticing.{is_parted_at}
use Rattle.md_notices.proofs.noticing.members_parted.Goals as goal

pub returns : goal.returns
returns g c = fill_by_all (is_parted_at c.args.mirror.now.array.members) c.loop-k.parted 64 false c.loop-k.invariant.size (search rules)
