use Rattle.std.proofs.Common.{◌/◌, arith, inl, inr}
use Rattle.std.proofs.lemmas.Bool.{cases_eq, false≢true}
use Rattle.md_bitmap.proofs.ByteRuns.{has_part, part_of_all}
use Rattle.md_bitmap.proofs.runs.has_run.Goals as goal

pub returns-then-bits-k : goal.returns-then-bits-k
returns-then-bits-k c = (
  λ e. absurd (false≢true e),
  λ all. absurd (c.if-bits-k.true (part_of_all c.args.bits.now c.args.from c.args.end c.loop-k.k c.run_in_byte-run.result
      (omega (arith, c.type_inv.bits c.loop-k.k)) (omega arith) c.run_in_byte-run.ensures all)),
)

pub loop-k-preserved : goal.loop-k-preserved
loop-k-preserved c i low high below =
    elim (cases_eq (i / 8) c.loop-k.k) [
      | inl here ↦ has_part c.args.bits.now c.args.from c.args.end c.loop-k.k c.run_in_byte-run.result c.run_in_byte-run.ensures c.if-bits-k.false i here low high
      | inr other ↦ c.loop-k.invariant i low high (omega arith)
    ]
