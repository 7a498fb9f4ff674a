use Rattle.std.proofs.Common.{◌≡◌, Err, rules}
use Rattle.md_metadata.specs.Faults.{of_store}
use Rattle.md_metadata.proofs.Steps.{record_stops, record_stored}
use Rattle.md_metadata.proofs.records.store_record.Goals as goal

pub returns-in_err-record : goal.returns-in_err-record
returns-in_err-record g c =
    let fault = c.in_err-record.field-0.0 in
    let e = c.in_err-record.ensures in
    let is : c.from_residual.result ≡ Err (of_store fault) = search rules in
    rw is (record_stops c.args.mirror.now c.record.new.self c.args.k e.sound e.pending c.requires.running c.requires.sound c.requires.active fault e.gives e.event)

pub returns : goal.returns
returns g c = let e = c.in_ok-record.ensures in record_stored c.args.mirror.now c.record.new.self c.args.k e.sound e.pending e.gives e.event
