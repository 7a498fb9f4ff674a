use Rattle.std.proofs.Common.{◌≡◌, ◌≤◌, length, slice_get}
use Rattle.md_kept_members.specs.View.{MemberView}
use Rattle.md_state.specs.Members.{IsMember}
use Rattle.md_notices.specs.UngivenChunks.{ungiven_below}
use Rattle.md_notices.proofs.ungiven_chunks.find_ungiven.Given as goal

abbrev pub invariant-loop-chunk : goal.invariant-loop-chunk
invariant-loop-chunk g l = record {
  count : (m : MemberView) → IsMember l.mirror.array l.k m → l.count ≡ length (ungiven_below l.mirror.array m l.chunk);
  first_is : (m : MemberView) → IsMember l.mirror.array l.k m → l.first ≡ slice_get (ungiven_below l.mirror.array m l.chunk) 0;
  few : l.count ≤ l.chunk;
}
