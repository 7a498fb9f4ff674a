use Rattle.std.proofs.Common.{◌<◌, false, length, rules, arith}
use Rattle.md_notices.specs.Noticing.{WasMarkedAtOpening}
use Rattle.md_notices.proofs.Members.{so_more}
use Rattle.md_notices.proofs.noticing.members_marked.Goals as goal

pub loop-k-preserved : goal.loop-k-preserved
loop-k-preserved g c =
    let members = c.args.mirror.now.array.members in
    let inside : c.loop-k.k < length c.loop-k.marked = omega (arith, c.loop-k.invariant.size) in
    record {
      size = search rules;
      so = so_more (WasMarkedAtOpening members) c.loop-k.marked c.loop-k.k c.is_marked_at.result false inside c.loop-k.invariant.so c.is_marked_at.ensures;
    }
