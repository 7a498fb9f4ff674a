use Rattle.std.proofs.Common.{◌≡◌, ◌∙◌, ◌<◌, ℕ, ap, sym, subst, arith}
use Rattle.md_bitmap.specs.declared.marks.Marks.{Marks}
use Rattle.md_notices.specs.Kernel.{marks_below}
use Rattle.md_notices.proofs.Below.{below_all, below_at}
use Rattle.md_notices.proofs.kernel.is_marked_below.Goals as goal

pub returns-then-marks_below : goal.returns-then-marks_below
returns-then-marks_below g c =
    let a = c.args.mirror.now.array in
    let counted : c.chunks-chunk-end.result ≡ a.marks.chunks = c.chunks-chunk-end.ensures ∙ ap (λ (m : Marks). m.chunks) c.marks.ensures in
    let within = subst (λ (n : ℕ). c.loop-chunk.chunk < n) counted c.loop-chunk-test.true in
    sym (below_at (marks_below a c.args.sector) a.marks.chunks c.loop-chunk.chunk within (sym c.marks_below.ensures ∙ c.if-marks_below.true))

pub returns : goal.returns
returns g c =
    let a = c.args.mirror.now.array in
    let counted : c.chunks-chunk-end.result ≡ a.marks.chunks = c.chunks-chunk-end.ensures ∙ ap (λ (m : Marks). m.chunks) c.marks.ensures in
    let past = c.loop-chunk-test.false in
    let within = c.loop-chunk.auto.chunk-end in
    below_all (marks_below a c.args.sector) a.marks.chunks c.loop-chunk.chunk (omega arith) c.loop-chunk.invariant
