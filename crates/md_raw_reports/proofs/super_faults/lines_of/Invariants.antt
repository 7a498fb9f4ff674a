use Rattle.std.proofs.Common.{take}
use Rattle.std.specs.List.{flat_map}
use Rattle.md_streams.specs.Sink.{Puts}
use Rattle.md_raw_reports.specs.SuperFaults.{super_fault_text}
use Rattle.md_raw_reports.proofs.super_faults.lines_of.Given as goal

abbrev pub invariant-loop-fault : goal.invariant-loop-fault
invariant-loop-fault g l = Puts g.S.Sink.contents g.S.Sink.failed l.fn.out l.out (flat_map (super_fault_text l.label l.read l.bytes) (take l.fault-index l.faults))
