use Rattle.std.proofs.Common.{ℕ, ◌++◌, subst}
use Rattle.std.specs.List.{flat_map, range_with_len}
use Rattle.md_streams.specs.Sink.{Puts}
use Rattle.md_streams.proofs.Puts.{puts_then}
use Rattle.md_report.specs.AsText.CheckReport.{check_text, chunk_text, list_text}
use Rattle.md_report.proofs.as_text.check_line.check_list_report.Goals as goal

pub returns : goal.returns
unfolding list_text
returns g c =
    let lines = flat_map (chunk_text c.args.chunks c.args.found.now) (range_with_len 0 c.args.found.now.chunks.chunks) in
    subst (λ (n : ℕ). Puts g.S.Sink.contents g.S.Sink.failed c.args.out.now c.check_report.new.out (lines ++ check_text n)) c.count.ensures
    (puts_then g.S.Sink.contents g.S.Sink.failed c.in_ok-chunk_lines.ensures c.in_ok-check_report.ensures)
