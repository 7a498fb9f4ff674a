use Rattle.std.proofs.Common.{take}
use Rattle.std.specs.List.{flat_map}
use Rattle.md_streams.specs.Sink.{Puts}
use Rattle.md_raw_reports.specs.SuperFields.{found_text}
use Rattle.md_raw_reports.proofs.super_fields.found_lines.Given as goal

abbrev pub invariant-loop-it : goal.invariant-loop-it
invariant-loop-it g l = Puts g.S.Sink.contents g.S.Sink.failed l.fn.out l.out (flat_map (found_text) (take l.it-index l.found))
