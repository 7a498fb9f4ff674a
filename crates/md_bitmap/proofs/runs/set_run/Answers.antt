use Rattle.std.proofs.Common.{arith}
use Rattle.md_bitmap.proofs.ByteRuns.{in_run, run_bits, set_byte}
use Rattle.md_bitmap.proofs.runs.set_run.Goals as goal

pub loop-k-preserved : goal.loop-k-preserved
loop-k-preserved c =
    let from = c.args.from in
    let end = c.args.end in
    let k = c.loop-k.k in
    set_byte (in_run from end) c.args.bits.now c.loop-k.bits k c.run_in_byte.result (omega (arith, c.loop-k.invariant.size, c.div_ceil-k-end.ensures))
    (run_bits from end k c.run_in_byte.result c.run_in_byte.ensures) c.loop-k.invariant
