use Rattle.std.proofs.Common.{◌≤◌, max}
use Rattle.md_kept_members.proofs.BlockCopied.{IsCopiedTo}
use Rattle.md_kept_members.proofs.stored_marks.copy_block.Given as goal

abbrev pub invariant-loop-chunk : goal.invariant-loop-chunk
invariant-loop-chunk l = record { copied : IsCopiedTo l.marks l.fn.stored l.first l.chunk l.stored; last : l.chunk ≤ max l.first l.chunk-end }
