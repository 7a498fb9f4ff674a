use Rattle.md_streams.proofs.Heard.{IsSoFar}
use Rattle.md_streams.proofs.answer.read_answer.Given as goal

abbrev pub invariant-loop-taken : goal.invariant-loop-taken
invariant-loop-taken g l = record {
  so_far : IsSoFar g.R.Source l.fn.input l.input l.heard l.taken;
}
