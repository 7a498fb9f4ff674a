use Rattle.std.proofs.Common.{◌≡◌, false, length, take}
use Rattle.std.specs.List.{filter}
use Rattle.md_streams.specs.Sink.{Puts}
use Rattle.md_report.specs.AsJson.Objects.{elements_text}
use Rattle.md_raw_reports.specs.SuperFaults.{is_seen}
use Rattle.md_raw_reports.specs.RawJson.RawSuper.{super_fault_value}
use Rattle.md_report.proofs.JsonLemmas.Texts.{is_later}
use Rattle.md_raw_reports.proofs.raw_json.raw_super_object.fault_elements.Given as goal

abbrev pub invariant-loop-fault : goal.invariant-loop-fault
invariant-loop-fault g l = record {
  puts : Puts g.S.Sink.contents g.S.Sink.failed l.fn.out l.out (elements_text super_fault_value false (filter (is_seen l.read l.bytes) (take l.fault-index l.faults)));
  later : l.later ≡ is_later false (length (filter (is_seen l.read l.bytes) (take l.fault-index l.faults)));
}
