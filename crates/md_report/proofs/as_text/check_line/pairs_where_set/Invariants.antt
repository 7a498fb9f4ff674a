use Rattle.std.proofs.Common.{take}
use Rattle.std.specs.List.{flat_map}
use Rattle.md_streams.specs.Sink.{Puts}
use Rattle.md_report.specs.AsText.CheckReport.{pair_in}
use Rattle.md_report.proofs.as_text.check_line.pairs_where_set.Given as goal

abbrev pub invariant-loop-pair : goal.invariant-loop-pair
invariant-loop-pair g l = Puts g.S.Sink.contents g.S.Sink.failed l.fn.out l.out (flat_map (pair_in l.c) (take l.pair-index l.pairs))
