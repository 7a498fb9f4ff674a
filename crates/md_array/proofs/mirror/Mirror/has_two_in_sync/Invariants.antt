use Rattle.std.proofs.Common.{◌≡◌, ◌<◌, ℕ, false, true}
use Rattle.md_kept_members.specs.View.{MemberView}
use Rattle.md_state.specs.Members.{IsInSync}
use Rattle.md_array.proofs.mirror.Mirror.has_two_in_sync.Given as goal

abbrev pub invariant-loop-k : goal.invariant-loop-k
invariant-loop-k g l = record {
  none : l.one ≡ false → (i : ℕ) (m : MemberView) → i < l.k → IsInSync l.self.array i m → ⊥;
  some : l.one ≡ true → (i : ℕ) × (m : MemberView) × (i < l.k) × IsInSync l.self.array i m;
  alone : (i j : ℕ) (m n : MemberView) → i < l.k → j < l.k → IsInSync l.self.array i m → IsInSync l.self.array j n → i ≡ j;
}
