use Rattle.std.proofs.Common.{arith}
use Rattle.md_kept_members.proofs.BlockCopied.{copied_all, copied_more, copied_none}
use Rattle.md_kept_members.proofs.stored_marks.copy_block.Goals as goal

pub loop-chunk-init : goal.loop-chunk-init
loop-chunk-init c = record { copied = copied_none c.args.marks.now c.args.stored.now _; last = omega arith }

pub copy_mark-requires-clause-stored : goal.copy_mark-requires-clause-stored
copy_mark-requires-clause-stored c = let count = c.loop-chunk.invariant.copied.chunks in omega arith

pub loop-chunk-preserved : goal.loop-chunk-preserved
loop-chunk-preserved c = record {
  copied = copied_more c.args.marks.now c.args.stored.now c.loop-chunk.stored c.copy_mark.new.stored _ c.loop-chunk.chunk c.loop-chunk.auto.chunk c.loop-chunk.invariant.copied c.copy_mark.ensures.chunks c.copy_mark.ensures.bits;
  last = omega arith;
}

pub returns : goal.returns
returns c =
    copied_all c.args.marks.now c.args.stored.now c.loop-chunk.stored c.args.block c.saturating_sub-first.result c.loop-chunk.chunk c.saturating_sub-first.ensures (omega arith) (omega arith)
    c.loop-chunk.invariant.copied
