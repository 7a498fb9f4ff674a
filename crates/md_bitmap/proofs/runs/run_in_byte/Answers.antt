use Rattle.std.proofs.Common.{◌*◌, ◌-◌, arith}
use Rattle.md_bitmap.proofs.ByteRuns.{byte_of_run, mask_fits}
use Rattle.md_bitmap.proofs.runs.run_in_byte.Goals as goal

pub overflow_sub-result : goal.overflow_sub-result
overflow_sub-result c = mask_fits c.min-low.result c.max-high.result (omega arith) (omega arith)

pub returns : goal.returns
returns c j h = byte_of_run c.args.from c.args.end (8 * c.args.k) c.min-low.result c.max-high.result j h (omega arith) (omega arith)
