use Rattle.std.proofs.Common.{◌+◌, List, drop, subst, sym}
use Rattle.std.proofs.lemmas.List.{drop_all, drop_more}
use Rattle.md_badblocks.specs.Runs.{IsCanonical}
use Rattle.md_badblocks.specs.declared.run.Run.{Run}
use Rattle.md_cli.specs.Lacking.{AreHoles}
use Rattle.md_cli.proofs.Lacked.{AreHolesTo, lacked_all, lacked_more, lacked_none}
use Rattle.md_cli.proofs.lists.holes.lacked_sectors.Goals as goal

pub loop-run-init : goal.loop-run-init
loop-run-init c = lacked_none c.runs-run-items.result.now c.args.offset c.args.size c.new-sectors.result c.new-sectors.ensures

pub loop-run-preserved : goal.loop-run-preserved
loop-run-preserved c =
    let runs = c.runs-run-items.result.now in
    let i = c.loop-run.run-index in
    lacked_more runs (drop (i + 1) runs) c.args.offset c.args.size c.loop-run.sectors c.add.new.self _ c.saturating_sub-start.result c.end.result c.saturating_sub.result c.min-end.result c.saturating_sub-in-loop-run.result (subst IsCanonical (sym c.runs-run-items.ensures.runs) c.runs-run-items.ensures.canonical)
    (subst (λ (rest : List Run). AreHolesTo runs c.args.offset c.args.size rest c.loop-run.sectors) (drop_more runs i _ c.loop-run-test.true) c.loop-run.invariant)
    c.saturating_sub-start.ensures c.end.ensures c.saturating_sub.ensures c.min-end.ensures c.saturating_sub-in-loop-run.ensures
    c.in_ok-add.ensures.ok

pub returns : goal.returns
returns c =
    let runs = c.runs-run-items.result.now in
    let i = c.loop-run.run-index in
    subst (λ (xs : List Run). AreHoles xs c.args.offset c.args.size c.loop-run.sectors) c.runs-run-items.ensures.runs
    (lacked_all runs (drop i runs) c.args.offset c.args.size c.loop-run.sectors (drop_all i runs c.loop-run-test.false) c.loop-run.invariant)
