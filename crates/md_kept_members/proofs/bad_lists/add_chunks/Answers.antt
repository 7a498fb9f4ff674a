use Rattle.std.proofs.Common.{sym, ◌∙◌}
use Rattle.md_kept_members.proofs.ChunksListed.{added_more, added_same}
use Rattle.md_kept_members.proofs.bad_lists.add_chunks.Goals as goal
use Rattle.md_kept_members.proofs.bad_lists.add_chunks.Goals.{then-is_marked+in_ok-add_chunk, else-is_marked}

pub loop-chunk-preserved : goal.loop-chunk-preserved
loop-chunk-preserved c =
    let n = c.loop-chunk.chunk in
    elim c.if-is_marked.branch [
      | then-is_marked+in_ok-add_chunk w ↦ rw (w.list-is)
          (added_more n c.args.chunks c.args.offset c.args.set.now c.args.list.now c.loop-chunk.list w.add_chunk.new.list (sym c.is_marked.ensures ∙ w.if-is_marked.true)
          w.in_ok-add_chunk.ensures.canonical w.in_ok-add_chunk.ensures.bad c.loop-chunk.invariant)
      | else-is_marked w ↦ rw (w.list-is)
          (added_same n c.args.chunks c.args.offset c.args.set.now c.args.list.now c.loop-chunk.list (sym c.is_marked.ensures ∙ w.if-is_marked.false) c.loop-chunk.invariant)
    ]
