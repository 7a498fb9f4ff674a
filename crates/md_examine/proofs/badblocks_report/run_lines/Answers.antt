use Rattle.std.proofs.Common.{ℕ, List, ap, subst, arith, rules}
use Rattle.std.specs.List.{flat_map}
use Rattle.std.proofs.lemmas.List.{take_all}
use Rattle.md_streams.specs.Sink.{Puts}
use Rattle.md_examine.specs.BadblocksReport.{run_text}
use Rattle.md_streams.proofs.Puts.{puts_then, puts_nothing, flat_map_at}
use Rattle.md_examine.proofs.badblocks_report.run_lines.Goals as goal

pub loop-run-init : goal.loop-run-init
loop-run-init g c = puts_nothing g.S.Sink.contents g.S.Sink.failed c.args.out.now

pub loop-run-preserved : goal.loop-run-preserved
loop-run-preserved g c =
    let P : List ℕ → Type 0 = λ t. Puts g.S.Sink.contents g.S.Sink.failed c.args.out.now c.run_line.new.out t in
    subst P (flat_map_at run_text c.args.runs.now c.loop-run.run-index _ c.loop-run-test.true)
    (puts_then g.S.Sink.contents g.S.Sink.failed c.loop-run.invariant c.in_ok-run_line.ensures)

pub returns : goal.returns
returns g c =
    let P : List ℕ → Type 0 = λ t. Puts g.S.Sink.contents g.S.Sink.failed c.args.out.now c.loop-run.out t in
    subst P (ap (flat_map run_text) (take_all c.loop-run.run-index c.args.runs.now (search (rules, arith)))) c.loop-run.invariant
