use Rattle.std.proofs.Common.{◌<◌, ℕ}
use Rattle.md_kept_members.specs.View.{MemberView}
use Rattle.md_state.specs.Members.{IsInSync}
use Rattle.md_state.specs.Steps.WriteMember.{IsNotDue}
use Rattle.md_cli.proofs.lists.storing_lists.is_none_due.Given as goal

abbrev pub invariant-loop-j : goal.invariant-loop-j
invariant-loop-j g l = (i : ℕ) (m : MemberView) → i < l.j → IsInSync l.mirror.array i m → IsNotDue m
