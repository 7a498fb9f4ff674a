use Rattle.std.proofs.Common.{◌<◌, ℕ}
use Rattle.md_kept_members.specs.View.{MemberView}
use Rattle.md_state.specs.Members.{IsInSync}
use Rattle.md_state.specs.Steps.WriteMember.{HasMarksFrom}
use Rattle.md_state.proofs.array.Array.first_unmarked.Given as goal

abbrev pub invariant-loop-k : goal.invariant-loop-k
invariant-loop-k l = (i : ℕ) (m : MemberView) → i < l.k → IsInSync l.self i m → HasMarksFrom l.first l.end m
