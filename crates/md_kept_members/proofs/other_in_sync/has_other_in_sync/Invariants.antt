use Rattle.std.proofs.Common.{◌≡◌, ◌<◌, ℕ, true}
use Rattle.std.specs.Prelude.{slice_get, Some}
use Rattle.md_assembly.specs.States.{is_in_sync}
use Rattle.md_kept_members.specs.View.{MemberView}
use Rattle.md_kept_members.proofs.other_in_sync.has_other_in_sync.Given as goal

abbrev pub invariant-loop-j : goal.invariant-loop-j
invariant-loop-j l = (i : ℕ) (m : MemberView) → i < l.j → slice_get l.members i ≡ Some m → is_in_sync m.state ≡ true → i ≡ l.k
