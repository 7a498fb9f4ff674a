use Rattle.std.proofs.Common.{◌<◌, arith, length, sym}
use Rattle.md_notices.proofs.Members.{left_more, left_not}
use Rattle.md_notices.proofs.parting.left_all.Goals as goal

pub returns-then-not-is_left_by : goal.returns-then-not-is_left_by
returns-then-not-is_left_by g c =
    let members = c.args.mirror.now.array.members in
    let inside : c.loop-k.k < length members = omega arith in
    sym (left_not c.args.v.now members c.loop-k.k c.own.result.now c.state.result c.is_left_by.result inside c.own.ensures c.state.ensures c.is_left_by.ensures c.if-not-is_left_by.true)

pub loop-k-preserved : goal.loop-k-preserved
loop-k-preserved g c =
    let members = c.args.mirror.now.array.members in
    let inside : c.loop-k.k < length members = omega arith in
    record { left = left_more c.args.v.now members c.loop-k.k c.own.result.now c.state.result c.is_left_by.result inside c.own.ensures c.state.ensures c.is_left_by.ensures c.if-not-is_left_by.false c.loop-k.invariant.left }
