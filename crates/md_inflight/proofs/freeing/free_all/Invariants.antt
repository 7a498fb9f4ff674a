use Rattle.std.proofs.Common.{length}
use Rattle.md_inflight.specs.Linked.{IsChain}
use Rattle.md_inflight.proofs.freeing.free_all.Given as goal

abbrev pub invariant-loop-place : goal.invariant-loop-place
invariant-loop-place g l = IsChain l.chain.first l.chain.last l.chain.nodes

-- each turn frees one node
abbrev pub decreases-loop-place : goal.decreases-loop-place
decreases-loop-place g l = length l.chain.nodes
