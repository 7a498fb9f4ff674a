use Rattle.std.proofs.Common.{◌<◌, ℕ}
use Rattle.md_kept_members.specs.View.{MemberView}
use Rattle.md_state.specs.Steps.Checkpoint.{EndsCheckpoint}
use Rattle.md_state.specs.Members.{IsMember}
use Rattle.md_state.proofs.array.Array.checkpoint_end.Given as goal

abbrev pub invariant-loop-chunk : goal.invariant-loop-chunk
invariant-loop-chunk l = (m : MemberView) → IsMember l.self l.k m → (c : ℕ) → c < l.chunk → EndsCheckpoint l.self m l.copied c → ⊥
