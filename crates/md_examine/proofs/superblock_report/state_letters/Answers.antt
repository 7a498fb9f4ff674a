use Rattle.std.proofs.Common.{rules}
use Rattle.std.proofs.lemmas.List.FromFn.{fill_by_all}
use Rattle.md_examine.specs.SuperblockReport.{state_letter, array_state}
use Rattle.md_examine.proofs.superblock_report.state_letters.Goals as goal

pub returns : goal.returns
unfolding array_state
returns c = fill_by_all (state_letter c.args.roles.now) c.from_fn.result 32 0 c.from_fn.ensures.items.long (λ k lt. let h = c.from_fn.ensures.items.at k 0 lt in search rules)
