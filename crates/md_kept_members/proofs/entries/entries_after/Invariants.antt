use Rattle.std.proofs.Common.{◌≤◌, List}
use Rattle.md_badblocks.specs.declared.run.Run.{Run}
use Rattle.md_kept_members.specs.Enrolling.{IsListAfter}
use Rattle.md_kept_members.specs.Entries.{CountsTo, place_of}
use Rattle.md_kept_members.proofs.entries.entries_after.Given as goal

abbrev pub invariant-loop-chunk : goal.invariant-loop-chunk
invariant-loop-chunk l = record {
  end : l.counter.end ≤ place_of l.chunks l.member.superblock.data_offset l.chunk;
  counts : (list : List Run) → IsListAfter l.chunks l.member l.copied l.orphans list → CountsTo (place_of l.chunks l.member.superblock.data_offset l.chunk) list l.counter;
}
