use Rattle.std.proofs.Common.{ℕ, List, subst, arith}
use Rattle.md_streams.specs.Sink.{Puts}
use Rattle.md_report.specs.AsText.WholeArray.DetailReport.{member_lines}
use Rattle.md_report.proofs.Members.{line_more}
use Rattle.md_streams.proofs.Puts.{puts_then, puts_nothing}
use Rattle.md_report.proofs.as_text.whole_array.member_lines.member_lines.Goals as goal

pub loop-k-init : goal.loop-k-init
unfolding member_lines
loop-k-init g c = puts_nothing g.S.Sink.contents g.S.Sink.failed c.args.out.now

pub loop-k-preserved : goal.loop-k-preserved
loop-k-preserved g c =
    let P : List ℕ → Type 0 = λ t. Puts g.S.Sink.contents g.S.Sink.failed c.args.out.now c.member_line.new.out t in
    subst P (line_more c.args.mirror.now.array 0 c.args.mirror.now.array.members c.loop-k.k c.loop-k.k c.own-own.result.now c.state.result c.re_added.result c.is_write_mostly-mostly.result (omega arith) (omega arith) c.own-own.ensures c.state.ensures c.re_added.ensures c.is_write_mostly-mostly.ensures)
    (puts_then g.S.Sink.contents g.S.Sink.failed c.loop-k.invariant c.in_ok-member_line.ensures)
