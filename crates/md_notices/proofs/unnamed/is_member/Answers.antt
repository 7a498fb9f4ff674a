use Rattle.std.proofs.Common.{◌<◌, arith, length, sym}
use Rattle.md_notices.proofs.Members.{named_no_more, named_there}
use Rattle.md_notices.proofs.unnamed.is_member.Goals as goal

pub returns-then-own-number : goal.returns-then-own-number
returns-then-own-number g c =
    let members = c.args.mirror.now.array.members in
    let inside : c.loop-k.k < length members = omega arith in
    sym (named_there c.args.number members c.loop-k.k c.own.result.now inside c.own.ensures c.if-own-number.true)

pub loop-k-preserved : goal.loop-k-preserved
loop-k-preserved g c =
    let members = c.args.mirror.now.array.members in
    let inside : c.loop-k.k < length members = omega arith in
    record { none = named_no_more c.args.number members c.loop-k.k c.own.result.now inside c.own.ensures c.if-own-number.false c.loop-k.invariant.none }
