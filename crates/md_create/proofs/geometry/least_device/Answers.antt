use Rattle.std.proofs.lemmas.Option.{slice_get-get_or}
use Rattle.md_create.proofs.Least.{least_more, some_whole, nothing_whole}
use Rattle.md_create.proofs.geometry.least_device.Goals as goal

pub loop-size-preserved : goal.loop-size-preserved
loop-size-preserved c =
    rw c.lesser-least.ensures (least_more c.args.sizes.now c.loop-size.size-index c.loop-size.least _ (slice_get-get_or c.args.sizes.now c.loop-size.size-index _ c.loop-size-test.true) c.loop-size.invariant)

pub returns-clause-some : goal.returns-clause-some
returns-clause-some c = some_whole c.args.sizes.now c.loop-size.least c.loop-size.size-index c.loop-size-test.false c.loop-size.invariant

pub returns-clause-none : goal.returns-clause-none
returns-clause-none c = nothing_whole c.args.sizes.now c.loop-size.least c.loop-size.size-index c.loop-size-test.false c.loop-size.invariant
