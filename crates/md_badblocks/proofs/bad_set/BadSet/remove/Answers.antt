use Rattle.std.proofs.Common.{subst, arith}
use Rattle.md_badblocks.specs.Runs.{IsCanonical}
use Rattle.md_badblocks.proofs.Ranges.{removed, none_removed}
use Rattle.md_badblocks.proofs.bad_set.BadSet.remove.Goals as goal

pub returns-in_ok-cut-clause-ok : goal.returns-in_ok-cut-clause-ok
returns-in_ok-cut-clause-ok c =
    rw (← c.self.view_is) (removed c.self.inside.runs.items c.cut.new.runs.items c.args.start c.args.len c.min-end.result c.self.invariant (omega arith) c.in_ok-cut.ensures.ok.cut)

pub returns-else-start-end-clause-ok : goal.returns-else-start-end-clause-ok
returns-else-start-end-clause-ok c =
    let canonical = subst IsCanonical c.self.view_is c.self.invariant in
    none_removed c.args.self.now c.args.start c.args.len c.min-end.result canonical (omega arith) c.if-start-end.false
