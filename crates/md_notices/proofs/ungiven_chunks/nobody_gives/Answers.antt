use Rattle.std.proofs.Common.{◌<◌, arith, length, sym}
use Rattle.md_notices.specs.UngivenChunks.{gives_no_whole}
use Rattle.md_notices.proofs.UngivenLists.{all_more, not_all}
use Rattle.md_notices.proofs.ungiven_chunks.nobody_gives.Goals as goal

pub returns-then-not-gives_no_whole : goal.returns-then-not-gives_no_whole
returns-then-not-gives_no_whole g c =
    let a = c.args.mirror.now.array in
    let inside : c.loop-k.k < length a.members = omega arith in
    sym (not_all (gives_no_whole a c.args.chunk) a.members c.loop-k.k c.gives_no_whole.result inside c.gives_no_whole.ensures c.if-not-gives_no_whole.true)

pub loop-k-preserved : goal.loop-k-preserved
loop-k-preserved g c =
    let a = c.args.mirror.now.array in
    let inside : c.loop-k.k < length a.members = omega arith in
    record { none = all_more (gives_no_whole a c.args.chunk) a.members c.loop-k.k c.gives_no_whole.result inside c.gives_no_whole.ensures c.if-not-gives_no_whole.false c.loop-k.invariant.none }
