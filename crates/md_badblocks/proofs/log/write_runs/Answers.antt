use Rattle.std.proofs.Common.{◌/◌, length, arith}
use Rattle.std.proofs.lemmas.List.Sums.{sum_by-take-le}
use Rattle.md_badblocks.specs.Runs.{entry_count}
use Rattle.md_badblocks.proofs.Rising.{run_fits}
use Rattle.md_badblocks.proofs.Written.{log_written}
use Rattle.md_badblocks.proofs.log.write_runs.Goals as goal

pub write_run-place-requires-clause-fits : goal.write_run-place-requires-clause-fits
write_run-place-requires-clause-fits c =
    run_fits 0 c.args.runs.now c.loop-run.run-index _ c.requires.canonical c.loop-run-test.true

pub returns : goal.returns
returns c =
    let part = sum_by-take-le entry_count c.args.runs.now c.loop-run.run-index in
    log_written c.args.runs.now c.loop-run.buf c.fill.new.self c.loop-run.place c.loop-run.run-index (length c.args.buf.now / 8) c.loop-run.invariant.0 c.loop-run.invariant.1 c.loop-run-test.false (omega arith) (omega arith) (c.fill.ensures.after (λ y same. same))
