use Rattle.std.proofs.Common.{ℕ, List, subst}
use Rattle.md_streams.specs.Sink.{Puts}
use Rattle.md_streams.proofs.Puts.{puts_then, puts_nothing}
use Rattle.md_examine.proofs.Texts.{flat_map_next}
use Rattle.md_report.specs.AsText.CheckReport.{chunk_text}
use Rattle.md_report.proofs.as_text.check_line.chunk_lines.Goals as goal

pub loop-c-init : goal.loop-c-init
loop-c-init g c = puts_nothing g.S.Sink.contents g.S.Sink.failed c.args.out.now

pub loop-c-preserved : goal.loop-c-preserved
loop-c-preserved g c =
    let P : List ℕ → Type 0 = λ t. Puts g.S.Sink.contents g.S.Sink.failed c.args.out.now c.chunk_where_set.new.out t in
    subst P (flat_map_next (chunk_text c.args.chunks c.args.found.now) c.loop-c.c)
    (puts_then g.S.Sink.contents g.S.Sink.failed c.loop-c.invariant c.in_ok-chunk_where_set.ensures)
