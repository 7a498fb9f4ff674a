use Rattle.md_copy.proofs.SalvageLemmas.LostWidened.{kept_apart, widened_so}
use Rattle.md_copy.proofs.SalvageLemmas.Rooms.{if_ok}
use Rattle.md_copy.proofs.salvaging.room.widening.widen_lost.Goals as goal

pub unite_runs-requires : goal.unite_runs-requires
unite_runs-requires c =
    kept_apart c.args.chunks c.args.missing.now c.args.lost.now c.in_ok-kept.kept c.keep_within.new.list c.in_ok-others.others c.in_ok-kept.ensures.same c.in_ok-keep_within.ensures c.in_ok-others.ensures

pub returns : goal.returns
returns c =
    if_ok c.unite_runs.result
    (λ listed united.
    widened_so c.args.chunks c.args.missing.now c.args.lost.now c.in_ok-kept.kept c.keep_within.new.list c.in_ok-others.others c.in_ok-kept.ensures.same c.in_ok-keep_within.ensures c.in_ok-others.ensures
    c.args.gap c.args.to listed united)
    c.unite_runs.ensures
