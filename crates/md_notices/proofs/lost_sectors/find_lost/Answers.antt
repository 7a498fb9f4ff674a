use Rattle.std.proofs.Common.{◌≡◌, ◌∙◌, ◌+◌, ◌-◌, ◌≤◌, arith}
use Rattle.md_notices.proofs.LostLists.{lost_more, lost_same}
use Rattle.md_notices.proofs.lost_sectors.find_lost.Goals as goal

pub loop-at-preserved-then-stretch : goal.loop-at-preserved-then-stretch
loop-at-preserved-then-stretch g c =
    let told = c.stretch_at-stretch.ensures in
    let inv = c.loop-at.invariant in
    let more = lost_more c.args.mirror.now.array.members c.loop-at.at c.stretch_at-stretch.result.1 c.loop-at.lost.count c.loop-at.lost.first told.some
    (λ s low high. told.alike s low high ∙ c.if-stretch.true) inv.count inv.first in
    record {
      most = told.within;
      count = more.0;
      few = omega (arith, inv.few, told.some);
      first = c.or-lost.ensures ∙ more.1;
    }

pub loop-at-preserved : goal.loop-at-preserved
loop-at-preserved g c =
    let told = c.stretch_at-stretch.ensures in
    let inv = c.loop-at.invariant in
    let same = lost_same c.args.mirror.now.array.members c.loop-at.at c.stretch_at-stretch.result.1 c.loop-at.lost.count c.loop-at.lost.first told.some
    (λ s low high. told.alike s low high ∙ c.if-stretch.false) inv.count inv.first in
    record {
      most = told.within;
      count = same.0;
      few = omega (arith, inv.few, told.some);
      first = same.1;
    }
