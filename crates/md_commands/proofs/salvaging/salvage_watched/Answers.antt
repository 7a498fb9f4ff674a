use Rattle.std.proofs.Common.{slice_get, subst}
use Rattle.md_copy.specs.Table.Sources.{missing_chunks}
use Rattle.md_commands.proofs.SalvagePending.{salvaged_or_not}
use Rattle.md_commands.proofs.salvaging.salvage_watched.Goals as goal

pub returns-clause-pending : goal.returns-clause-pending
returns-clause-pending g c p is = salvaged_or_not c.args.k c.args.mirror.now c.salvage.new.mirror c.salvage.result c.salvage.ensures.gives p is

pub returns-clause-begins : goal.returns-clause-begins
returns-clause-begins g c m at =
    let missing = missing_chunks c.args.mirror.now.array m in
    let is = c.chunks_lacked-lacked.ensures m at in
    subst (λ n. g.W.Watch.lacks c.args.watch.now n (slice_get missing 0)) is.count
    (subst (λ o. g.W.Watch.lacks c.args.watch.now c.chunks_lacked-lacked.result.0 o) is.first_is c.begins.ensures)

pub returns-clause-taken_up : goal.returns-clause-taken_up
returns-clause-taken_up g c m at is = c.tell_if_taken_up.ensures m at is
