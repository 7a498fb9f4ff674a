use Rattle.std.proofs.Common.{◌≡◌, ◌+◌, ◌-◌, ◌≤◌, ap, subst, arith}
use Rattle.md_bitmap.specs.declared.chunks.Chunks.{Chunks}
use Rattle.md_resync.specs.Copying.{RunEnds}
use Rattle.md_resync.proofs.CopiedChunks.{from_run, part_of_marked, range_of, uncrossed, uncrossed_none}
use Rattle.md_resync.proofs.chunks.copy_across.Goals as goal

pub returns-then-chunk-alone : goal.returns-then-chunk-alone
returns-then-chunk-alone g c = uncrossed_none c.args.mirror.now c.requires.sound

pub returns-then-behind-chunk : goal.returns-then-behind-chunk
returns-then-behind-chunk g c = uncrossed_none c.args.mirror.now c.requires.sound

pub copy_run-requires-clause-part : goal.copy_run-requires-clause-part
copy_run-requires-clause-part g c =
    let old = c.args.mirror.now in
    let behind = c.end_of_marked-behind.result in
    let end = c.range-start.ensures.end in
    let size = ap (λ (x : Chunks). x.size) c.chunks.ensures in
    part_of_marked c.args.sector old c.requires.sound c.requires.may c.args.chunk behind c.range-start.result.0 c.range-start.result.1 c.requires.chunk c.end_of_marked-behind.ensures.from
    c.range-start.ensures.some c.end_of_marked-behind.ensures.marked
    (range_of (behind - 1) c.range-start.result.0 c.range-start.result.1 c.chunks.result old.array c.chunks.ensures c.range-start.ensures.sectors) (omega arith)

pub returns-in-Copied : goal.returns-in-Copied
returns-in-Copied g c =
    let old = c.args.mirror.now in
    let far = c.range-start.result.0 + c.range-start.result.1 in
    let end = c.range-start.ensures.end in
    let size = ap (λ (x : Chunks). x.size) c.chunks.ensures in
    from_run c.args.sector far c.in-Copied.next old c.copy_run.new.mirror (omega arith)
    (subst (RunEnds c.args.sector far old c.copy_run.new.mirror) c.in-Copied.is c.in_ok-next.ensures)

pub returns-in-Unread : goal.returns-in-Unread
returns-in-Unread g c =
    let old = c.args.mirror.now in
    let far = c.range-start.result.0 + c.range-start.result.1 in
    uncrossed c.in-Unread.field-0 c.args.sector far old c.copy_run.new.mirror c.requires.sound
    (subst (RunEnds c.args.sector far old c.copy_run.new.mirror) c.in-Unread.is c.in_ok-next.ensures)
