use Rattle.std.proofs.Common.{◌≡◌, ◌<◌, ◌≤◌, ℕ, true}
use Rattle.md_bitmap.specs.Marks.{is_set}
use Rattle.md_resync.proofs.chunks.end_of_marked.Given as goal

abbrev pub invariant-loop-next : goal.invariant-loop-next
invariant-loop-next g l =
    record {
      from : l.chunk < l.next;
      marked : (c : ℕ) → l.chunk ≤ c → c < l.next → is_set l.mirror.array.marks.bytes c ≡ true;
    }
