use Rattle.std.proofs.Common.{◌≡◌, ◌+◌, ◌≤◌, ◌<◌, ◌↔◌, ℕ, Option, None, MatchOption, ap, ◌∙◌, sym, subst, arith}
use Rattle.std.proofs.lemmas.Result.{err_from_is_err_and}
use Rattle.md_bitmap.specs.declared.chunks.Chunks.{Chunks}
use Rattle.md_bitmap.specs.Chunks.{InChunk}
use Rattle.md_state.specs.View.{ArrayView, MirrorView}
use Rattle.md_resync.specs.Copying.{CopiesFrom, IsPart, IsUncrossed, RunEnds}
use Rattle.md_resync.proofs.CopiedChunks.{IsRange, from_after, from_run, given_after, part_of_chunk, range_of, unread_fails}
use Rattle.md_resync.proofs.chunks.copy_next.Goals as goal

-- where no run went across the chunk's end
not_across : (sector : ℕ) (old mid : MirrorView) (next : Option ℕ) → next ≡ None → MatchOption next (IsUncrossed old mid) (λ (n : ℕ). CopiesFrom sector n old mid) → IsUncrossed old mid
not_across sector old mid next none = subst (λ (x : Option ℕ). MatchOption x (IsUncrossed old mid) (λ (n : ℕ). CopiesFrom sector n old mid)) none

-- the chunk's range
here : (chunk start sectors : ℕ) (x : Chunks) (old mid : MirrorView) → IsUncrossed old mid → x ≡ mid.array.chunks → ((s : ℕ) → InChunk x.sectors x.size chunk s ↔ ((start ≤ s) × (s < start + sectors)))
    → IsRange old.array chunk start sectors
here chunk start sectors x old mid un same = range_of chunk start sectors x old.array (same ∙ ap (λ (a : ArrayView). a.chunks) un.rests.array)

pub copy_run-requires-clause-sound : goal.copy_run-requires-clause-sound
copy_run-requires-clause-sound g c = (not_across c.args.sector c.args.mirror.now c.copy_across.new.mirror c.in_ok-next.field-0 c.in_default.is c.in_ok-next.ensures).sound

pub copy_run-requires-clause-part : goal.copy_run-requires-clause-part
copy_run-requires-clause-part g c =
    let old = c.args.mirror.now in
    let mid = c.copy_across.new.mirror in
    let un = not_across c.args.sector old mid c.in_ok-next.field-0 c.in_default.is c.in_ok-next.ensures in
    let range = here c.args.chunk c.range-start.result.0 c.range-start.result.1 c.chunks.result old mid un c.chunks.ensures c.range-start.ensures.sectors in
    let end = c.range-start.ensures.end in
    let size = ap (λ (x : Chunks). x.size) c.chunks.ensures in
    let kept = ap (λ (a : ArrayView). a.chunks.size) un.rests.array in
    subst (IsPart c.args.sector (c.range-start.result.0 + c.range-start.result.1)) (sym un.rests.array)
    (part_of_chunk c.args.sector old c.requires.sound c.requires.may c.args.chunk c.range-start.result.0 c.range-start.result.1 c.requires.within c.requires.chunk c.requires.marked range (omega arith))

pub returns-in_err-next-2 : goal.returns-in_err-next-2
returns-in_err-next-2 g c =
    let p = err_from_is_err_and c.from_residual-in_err-next-2.result c.from_residual-in_err-next-2.ensures.1 in
    let old = c.args.mirror.now in
    let mid = c.copy_across.new.mirror in
    let un = not_across c.args.sector old mid c.in_ok-next.field-0 c.in_default.is c.in_ok-next.ensures in
    rw (p.1, p.2) (given_after c.args.sector old mid c.copy_run.new.mirror c.requires.sound un.rests c.in_err-next-2.field-0.0 c.in_err-next-2.ensures)

pub returns-in-Copied : goal.returns-in-Copied
returns-in-Copied g c =
    let old = c.args.mirror.now in
    let mid = c.copy_across.new.mirror in
    let un = not_across c.args.sector old mid c.in_ok-next.field-0 c.in_default.is c.in_ok-next.ensures in
    let far = c.range-start.result.0 + c.range-start.result.1 in
    let end = c.range-start.ensures.end in
    let size = ap (λ (x : Chunks). x.size) c.chunks.ensures in
    from_after c.args.sector old mid c.copy_run.new.mirror c.requires.sound un.rests c.in-Copied.next
    (from_run c.args.sector far c.in-Copied.next mid c.copy_run.new.mirror (omega arith)
    (subst (RunEnds c.args.sector far mid c.copy_run.new.mirror) c.in-Copied.is c.in_ok-next-2.ensures))

pub returns-in-Unread : goal.returns-in-Unread
returns-in-Unread g c =
    let old = c.args.mirror.now in
    let mid = c.copy_across.new.mirror in
    let un = not_across c.args.sector old mid c.in_ok-next.field-0 c.in_default.is c.in_ok-next.ensures in
    let range = here c.args.chunk c.range-start.result.0 c.range-start.result.1 c.chunks.result old mid un c.chunks.ensures c.range-start.ensures.sectors in
    let far = c.range-start.result.0 + c.range-start.result.1 in
    unread_fails c.args.sector old mid c.copy_run.new.mirror c.requires.sound un.rests c.in-Unread.from c.args.chunk c.range-start.result.0 c.range-start.result.1 c.requires.within c.requires.chunk c.requires.marked range
    (subst (RunEnds c.args.sector far mid c.copy_run.new.mirror) c.in-Unread.is c.in_ok-next-2.ensures)
