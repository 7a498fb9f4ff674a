use Rattle.std.proofs.Common.{arith}
use Rattle.std.proofs.lemmas.Option.{slice_get_within}
use Rattle.md_resync.proofs.told_first.is_recovering_due.Goals as goal

pub loop-k-init : goal.loop-k-init
loop-k-init g c j m below at = absurd (omega arith)

pub returns : goal.returns
returns g c none k m at =
    let past = c.loop-k-test.false in
    let count = c.members-k-end.ensures in
    c.loop-k.invariant k m (let low = slice_get_within c.args.mirror.now.array.members k m at in omega arith) at
