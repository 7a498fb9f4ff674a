use Rattle.std.proofs.Common.{◌+◌, arith, sym, subst}
use Rattle.md_resync.specs.Sources.{BestBelow}
use Rattle.md_resync.proofs.Bests.{best_more, member_at, none_at_end, source_at_end}
use Rattle.md_resync.proofs.source.source_of.Goals as goal

pub loop-k-preserved : goal.loop-k-preserved
loop-k-preserved g c =
    let a = c.args.mirror.now.array in
    let m = member_at a c.loop-k.k (omega arith) in
    record {
      best = subst (BestBelow (c.loop-k.k + 1) c.args.sector a) (sym c.lower-best.ensures)
          (best_more c.args.sector a c.loop-k.k m.0 m.1 c.loop-k.best c.role_to_read.result c.loop-k.invariant.best c.role_to_read.ensures);
    }

pub returns-in-Some-clause-source : goal.returns-in-Some-clause-source
returns-in-Some-clause-source g c = source_at_end c.args.sector c.args.mirror.now.array c.loop-k.k c.loop-k.best _ _ (omega arith) c.in-Some.is c.loop-k.invariant.best

pub returns-in-None-clause-source : goal.returns-in-None-clause-source
returns-in-None-clause-source g c = none_at_end c.args.sector c.args.mirror.now.array c.loop-k.k c.loop-k.best (omega arith) c.in-None.is c.loop-k.invariant.best
