use Rattle.std.proofs.Common.{None, rules}
use Rattle.std.proofs.lemmas.List.FromFn.{fill_by_all}
use Rattle.md_notices.specs.Noticing.{state_at}
use Rattle.md_notices.proofs.noticing.states_of.Goals as goal

pub returns : goal.returns
returns g c = fill_by_all (state_at c.args.mirror.now.array.members) c.loop-k.states 64 None c.loop-k.invariant.size (search rules)
