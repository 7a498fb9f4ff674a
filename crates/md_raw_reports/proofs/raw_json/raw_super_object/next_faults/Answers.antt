use Rattle.std.specs.List.{filter}
use Rattle.md_raw_reports.specs.RawJson.RawSuper.{super_fault_value}
use Rattle.md_raw_reports.specs.SuperFaults.{faults_of, is_seen}
use Rattle.md_report.proofs.JsonLemmas.Texts.{puts_list}
use Rattle.md_raw_reports.proofs.raw_json.raw_super_object.next_faults.Goals as goal

pub returns : goal.returns
returns g c =
    let own = c.in_ok-fault_elements.ensures in
    let own = rw (c.super_faults_of.ensures) at own in
    puts_list g.S.Sink.contents g.S.Sink.failed super_fault_value c.args.name.now (filter (is_seen c.args.read c.args.bytes.now) (faults_of c.args.bytes.now)) c.in_ok-next_key.ensures c.in_ok-put.ensures own c.in_ok-put-2.ensures
