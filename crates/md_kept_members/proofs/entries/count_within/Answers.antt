use Rattle.std.proofs.Common.{◌-◌, length, take, drop}
use Rattle.std.proofs.lemmas.List.{take_rest}
use Rattle.md_kept_members.proofs.EntryCounts.{all_within, out_within, step_fits, step_within, within_begun}
use Rattle.md_kept_members.proofs.entries.count_within.Goals as goal

pub loop-run-init : goal.loop-run-init
loop-run-init c =
    let runs = c.args.runs.now in
    let first = c.first_ending_above-first.result in
    rw (take_rest runs first)
    (within_begun runs first c.args.from c.args.to c.args.counter c.requires.canonical c.first_ending_above-first.ensures.before c.first_ending_above-first.ensures.after c.requires.after c.requires.ordered)

pub push-next-requires : goal.push-next-requires
push-next-requires c =
    let runs = c.args.runs.now in
    let first = c.first_ending_above-first.result in
    let items = take (length runs - first) (drop first runs) in
    let fits = step_fits runs items c.loop-run.run-index _ c.args.from c.args.to c.args.counter c.loop-run.next c.loop-run-test.true c.loop-run.invariant c.requires.ordered
    c.max.result c.end.result c.min.result c.if-run-to.false c.requires.fits c.max.ensures c.end.ensures c.min.ensures in
    record { after = fits.0; ordered = fits.1; fits = fits.2 }

pub loop-run-preserved : goal.loop-run-preserved
loop-run-preserved c =
    let runs = c.args.runs.now in
    let first = c.first_ending_above-first.result in
    let items = take (length runs - first) (drop first runs) in
    step_within runs items c.loop-run.run-index _ c.args.from c.args.to c.args.counter c.loop-run.next c.loop-run-test.true c.loop-run.invariant c.requires.ordered
    c.max.result c.end.result c.min.result c.push-next.result c.if-run-to.false c.max.ensures c.end.ensures c.min.ensures c.push-next.ensures.end c.push-next.ensures.counts

pub returns-then-run-to-clause-counts : goal.returns-then-run-to-clause-counts
returns-then-run-to-clause-counts c =
    let runs = c.args.runs.now in
    let first = c.first_ending_above-first.result in
    let items = take (length runs - first) (drop first runs) in
    out_within runs items c.loop-run.run-index _ c.args.from c.args.to c.args.counter c.loop-run.next c.loop-run-test.true c.loop-run.invariant c.requires.ordered c.if-run-to.true

pub returns-clause-counts : goal.returns-clause-counts
returns-clause-counts c =
    let runs = c.args.runs.now in
    let first = c.first_ending_above-first.result in
    let items = take (length runs - first) (drop first runs) in
    all_within runs items c.loop-run.run-index c.args.from c.args.to c.args.counter c.loop-run.next c.loop-run-test.false c.loop-run.invariant c.requires.ordered
