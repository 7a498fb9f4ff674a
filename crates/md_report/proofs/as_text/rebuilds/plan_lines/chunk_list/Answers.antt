use Rattle.std.proofs.Common.{ℕ, List, ◌++◌, ap, codes, decimal, subst, arith, rules}
use Rattle.std.proofs.lemmas.List.{take_all}
use Rattle.md_streams.specs.Sink.{Puts}
use Rattle.md_report.specs.AsText.Rebuilds.PlanReport.{chunks_text}
use Rattle.md_streams.proofs.Puts.{puts_then, puts_nothing, flat_map_at}
use Rattle.md_report.proofs.as_text.rebuilds.plan_lines.chunk_list.Goals as goal

pub loop-chunk-init : goal.loop-chunk-init
unfolding chunks_text
loop-chunk-init g c = puts_nothing g.S.Sink.contents g.S.Sink.failed c.args.out.now

pub loop-chunk-preserved : goal.loop-chunk-preserved
unfolding chunks_text
loop-chunk-preserved g c =
    let P : List ℕ → Type 0 = λ t. Puts g.S.Sink.contents g.S.Sink.failed c.args.out.now c.number_after.new.out t in
    subst P (flat_map_at (λ n. codes " " ++ decimal n) c.args.chunks.now c.loop-chunk.chunk-index _ c.loop-chunk-test.true)
    (puts_then g.S.Sink.contents g.S.Sink.failed c.loop-chunk.invariant c.in_ok-number_after.ensures)

pub returns : goal.returns
returns g c =
    let P : List ℕ → Type 0 = λ t. Puts g.S.Sink.contents g.S.Sink.failed c.args.out.now c.loop-chunk.out t in
    subst P (ap chunks_text (take_all c.loop-chunk.chunk-index c.args.chunks.now (search (rules, arith)))) c.loop-chunk.invariant
