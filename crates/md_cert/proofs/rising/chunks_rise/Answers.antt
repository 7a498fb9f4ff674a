use Rattle.std.proofs.Common.{ℕ}
use Rattle.md_cert.proofs.SideBySide.{rises_more}
use Rattle.md_cert.proofs.rising.chunks_rise.Goals as goal

pub loop-i-preserved : goal.loop-i-preserved
loop-i-preserved c = rises_more (λ (n : ℕ). n) c.args.chunks.now c.loop-i.i 0 c.loop-i.invariant c.loop-i-test.true c.loop-i.auto.i c.if-chunks-i.false
