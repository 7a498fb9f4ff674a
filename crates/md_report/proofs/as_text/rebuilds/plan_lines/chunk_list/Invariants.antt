use Rattle.std.proofs.Common.{take}
use Rattle.md_streams.specs.Sink.{Puts}
use Rattle.md_report.specs.AsText.Rebuilds.PlanReport.{chunks_text}
use Rattle.md_report.proofs.as_text.rebuilds.plan_lines.chunk_list.Given as goal

abbrev pub invariant-loop-chunk : goal.invariant-loop-chunk
invariant-loop-chunk g l = Puts g.S.Sink.contents g.S.Sink.failed l.fn.out l.out (chunks_text (take l.chunk-index l.chunks))
