use Rattle.std.proofs.Common.{take}
use Rattle.std.specs.List.{flat_map}
use Rattle.md_streams.specs.Sink.{Puts}
use Rattle.md_raw_reports.specs.BitmapFields.{bitmap_fault_text}
use Rattle.md_raw_reports.proofs.bitmap_fields.fault_lines.Given as goal

abbrev pub invariant-loop-fault : goal.invariant-loop-fault
invariant-loop-fault g l = Puts g.S.Sink.contents g.S.Sink.failed l.fn.out l.out (flat_map (bitmap_fault_text l.sector) (take l.fault-index l.faults))
