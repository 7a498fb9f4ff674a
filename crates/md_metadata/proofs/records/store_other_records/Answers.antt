use Rattle.std.proofs.Common.{◌∙◌, ◌≡◌, arith, Err, refl, rules}
use Rattle.md_state.specs.Steps.WriteMember.{IsNotDue}
use Rattle.md_metadata.specs.Storing.{IsRecording}
use Rattle.md_metadata.proofs.Going.{stops_on}
use Rattle.md_metadata.proofs.StoredMembers.{last_on, records_last}
use Rattle.md_metadata.proofs.StoredRecords.{recorded_all, recorded_more, recorded_none}
use Rattle.md_metadata.proofs.records.store_other_records.Goals as goal

pub loop-k-init : goal.loop-k-init
loop-k-init g c = recorded_none c.args.mirror.now c.requires.sound

pub store_other_record-requires-clause-within : goal.store_other_record-requires-clause-within
store_other_record-requires-clause-within g c =
    let many = c.loop-k.invariant.stores.goes.array.as_many in
    let count = c.members-k-end.ensures in
    omega arith

pub store_other_record-requires-clause-sound : goal.store_other_record-requires-clause-sound
store_other_record-requires-clause-sound g c = c.loop-k.invariant.stores.goes.sound

pub store_other_record-requires-clause-running : goal.store_other_record-requires-clause-running
store_other_record-requires-clause-running g c = c.loop-k.invariant.stores.ready.halted ∙ c.requires.running

pub store_other_record-requires-clause-recorded : goal.store_other_record-requires-clause-recorded
store_other_record-requires-clause-recorded g c =
    last_on IsRecording IsNotDue c.args.mirror.now c.args.mirror.now c.loop-k.mirror (records_last c.args.mirror.now.array.marks) refl c.requires.recorded c.loop-k.invariant.stores

pub returns-in_err-store_other_record : goal.returns-in_err-store_other_record
returns-in_err-store_other_record g c =
    let is : c.from_residual.result ≡ Err c.in_err-store_other_record.field-0.0 = search rules in
    rw is (stops_on IsRecording c.args.mirror.now c.loop-k.mirror c.store_other_record.new.mirror c.in_err-store_other_record.field-0.0 c.loop-k.invariant.stores c.in_err-store_other_record.ensures)

pub loop-k-preserved : goal.loop-k-preserved
loop-k-preserved g c = recorded_more c.loop-k.k c.args.mirror.now c.loop-k.mirror c.store_other_record.new.mirror c.loop-k.invariant c.in_ok-store_other_record.ensures

pub returns : goal.returns
returns g c =
    let past = c.loop-k-test.false in
    let count = c.members-k-end.ensures in
    let many = c.loop-k.invariant.stores.goes.array.as_many in
    recorded_all c.loop-k.k c.args.mirror.now c.loop-k.mirror (omega arith) c.loop-k.invariant
