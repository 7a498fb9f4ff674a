use Rattle.std.proofs.Common.{ℕ, ◌<◌, List, length, subst, arith}
use Rattle.md_streams.specs.Sink.{Puts}
use Rattle.md_streams.proofs.Puts.{puts_then, puts_nothing}
use Rattle.md_report.specs.Recovery.{recoveries}
use Rattle.md_report.proofs.Recoveries.{lines_more}
use Rattle.md_report.proofs.recovery.recovery_lines.Goals as goal

pub loop-k-init : goal.loop-k-init
unfolding recoveries
loop-k-init g c = puts_nothing g.S.Sink.contents g.S.Sink.failed c.args.out.now

pub loop-k-preserved : goal.loop-k-preserved
loop-k-preserved g c =
    let a = c.args.mirror.now.array in
    let inside : c.loop-k.k < length a.members = omega arith in
    let P : List ℕ → Type 0 = λ t. Puts g.S.Sink.contents g.S.Sink.failed c.args.out.now c.line_if.new.out t in
    subst P (lines_more a a.members c.loop-k.k c.recovery_at.result inside c.recovery_at.ensures)
    (puts_then g.S.Sink.contents g.S.Sink.failed c.loop-k.invariant c.in_ok-line_if.ensures)
