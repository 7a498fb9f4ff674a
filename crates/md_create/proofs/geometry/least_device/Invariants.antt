use Rattle.md_create.proofs.Least.{LeastBelow}
use Rattle.md_create.proofs.geometry.least_device.Given as goal

abbrev pub invariant-loop-size : goal.invariant-loop-size
invariant-loop-size l = LeastBelow l.sizes l.size-index l.least
