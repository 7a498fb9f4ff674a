use Rattle.std.proofs.Common.{ℕ, List, ap, subst, arith, rules}
use Rattle.std.specs.List.{flat_map}
use Rattle.std.proofs.lemmas.List.{take_all}
use Rattle.md_streams.specs.Sink.{Puts}
use Rattle.md_streams.proofs.Puts.{puts_then, puts_nothing, flat_map_at}
use Rattle.md_cli.specs.Scanning.{unshown_text}
use Rattle.md_cli.proofs.scanning.put_each_refused.Goals as goal

pub loop-refused-init : goal.loop-refused-init
loop-refused-init g c = puts_nothing g.E.Sink.contents g.E.Sink.failed c.args.err.now

pub loop-refused-preserved : goal.loop-refused-preserved
loop-refused-preserved g c =
    let P : List ℕ → Type 0 = λ t. Puts g.E.Sink.contents g.E.Sink.failed c.args.err.now c.put_refused.new.err t in
    subst P (flat_map_at (unshown_text c.args.is_named) c.args.all.now c.loop-refused.refused-index _ c.loop-refused-test.true)
    (puts_then g.E.Sink.contents g.E.Sink.failed c.loop-refused.invariant c.in_ok-put_refused.ensures)

pub returns : goal.returns
returns g c =
    let P : List ℕ → Type 0 = λ t. Puts g.E.Sink.contents g.E.Sink.failed c.args.err.now c.loop-refused.err t in
    subst P (ap (flat_map (unshown_text c.args.is_named)) (take_all c.loop-refused.refused-index c.args.all.now (search (rules, arith)))) c.loop-refused.invariant
