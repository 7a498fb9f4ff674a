use Rattle.std.proofs.Common.{◌∙◌, ◌≡◌, arith, Err, rules, true}
use Rattle.md_kept_members.specs.View.{MemberView}
use Rattle.md_state.specs.Members.{IsMember}
use Rattle.md_state.specs.Steps.WriteMember.{IsNotDue}
use Rattle.md_state.proofs.Members.At.{told}
use Rattle.md_metadata.specs.Faults.{of_store}
use Rattle.md_metadata.specs.Storing.{IsRecording, IsSector}
use Rattle.md_metadata.proofs.Going.{first_records, in_sync_before, sector_in_sync, sector_stops, stops_as, stops_on}
use Rattle.md_metadata.proofs.Steps.{record_stops, record_stored}
use Rattle.md_metadata.proofs.StoredMembers.{below_all, below_more, below_none, nothing_at, records_last}
use Rattle.md_metadata.proofs.StoredRecords.{header_due, in_sync_due, record_in_sync, recorded_after, still_recorded, stops_after}
use Rattle.md_metadata.proofs.records.store_records.Goals as goal
use Rattle.md_metadata.proofs.records.store_records.Goals.{then-not-is_in_sync-via-then-not-is_in_sync, then-not-is_in_sync-via-else-not-is_in_sync+then-not-due}

pub loop-k-init : goal.loop-k-init
loop-k-init g c = below_none IsRecording IsNotDue c.args.mirror.now c.requires.sound

pub loop-k-preserved-then-not-is_in_sync : goal.loop-k-preserved-then-not-is_in_sync
loop-k-preserved-then-not-is_in_sync g c =
    let k = c.loop-k.k in
    let old = c.args.mirror.now in
    let now = c.loop-k.mirror in
    below_more IsRecording IsNotDue k old now now (records_last old.array.marks) c.loop-k.invariant
    (nothing_at IsRecording IsNotDue k now c.loop-k.invariant.stores.goes.sound
    (λ n in_sync.
    let state = told (λ m. m.state) now.array k n c.state.result c.state.ensures in_sync.member in
    let yes = in_sync.in_sync in
    let answer = c.is_in_sync.ensures in
    elim c.then-not-is_in_sync.branch [
      | then-not-is_in_sync-via-then-not-is_in_sync w ↦ let out = w.if-not-is_in_sync.true in absurd cc
      | then-not-is_in_sync-via-else-not-is_in_sync+then-not-due w ↦
          let due = told (λ m. m.due) now.array k n w.due.result w.due.ensures in_sync.member in
          let out = w.if-not-due.true in
          cc
    ]))

pub store_sector-requires-clause-sound : goal.store_sector-requires-clause-sound
store_sector-requires-clause-sound g c = c.loop-k.invariant.stores.goes.sound

pub store_sector-requires-clause-running : goal.store_sector-requires-clause-running
store_sector-requires-clause-running g c = c.loop-k.invariant.stores.ready.halted ∙ c.requires.running

pub store_sector-requires-clause-in_sync : goal.store_sector-requires-clause-in_sync
store_sector-requires-clause-in_sync g c m at =
    let state = told (λ x. x.state) c.loop-k.mirror.array c.loop-k.k m c.state.result c.state.ensures at in
    let answer = c.is_in_sync.ensures in
    let yes = c.if-not-is_in_sync.false in
    cc

pub store_sector-requires-clause-due : goal.store_sector-requires-clause-due
store_sector-requires-clause-due g c =
    header_due c.loop-k.mirror.array c.loop-k.k
    (λ m at. let due = told (λ x. x.due) c.loop-k.mirror.array c.loop-k.k m c.due.result c.due.ensures at in let yes = c.if-not-due.false in cc)

pub returns-in_err-store_sector-clause-gives : goal.returns-in_err-store_sector-clause-gives
returns-in_err-store_sector-clause-gives g c =
    let k = c.loop-k.k in
    let now = c.loop-k.mirror in
    let new = c.store_sector.new.mirror in
    let fault = c.in_err-store_sector.field-0.0 in
    let is : c.from_residual.result ≡ Err fault = search rules in
    rw is (stops_on IsRecording c.args.mirror.now now new fault c.loop-k.invariant.stores
    (stops_as (IsSector k 0) IsRecording (first_records k) now new fault (sector_stops k 0 now new fault c.in_err-store_sector.ensures)))

pub returns-in_err-store_sector-clause-in_sync : goal.returns-in_err-store_sector-clause-in_sync
returns-in_err-store_sector-clause-in_sync g c =
    let k = c.loop-k.k in
    let now = c.loop-k.mirror in
    let fault = c.in_err-store_sector.field-0.0 in
    let is : c.from_residual.result ≡ Err fault = search rules in
    rw is
    (in_sync_before c.args.mirror.now.array now.array fault c.loop-k.invariant.stores.ready
    (sector_in_sync k 0 now c.store_sector.new.mirror fault
    (λ m at.
    let state = told (λ x. x.state) now.array k m c.state.result c.state.ensures at in
    let answer = c.is_in_sync.ensures in
    let yes = c.if-not-is_in_sync.false in
    cc)
    c.in_err-store_sector.ensures))

pub returns-in_err-record-clause-gives : goal.returns-in_err-record-clause-gives
returns-in_err-record-clause-gives g c =
    let k = c.loop-k.k in
    let old = c.args.mirror.now in
    let now = c.loop-k.mirror in
    let mid = c.store_sector.new.mirror in
    let new = c.record.new.self in
    let inv = c.loop-k.invariant in
    let s = c.in_ok-store_sector.ensures in
    let e = c.in_err-record.ensures in
    let fault = c.in_err-record.field-0.0 in
    let due : (m : MemberView) → IsMember now.array k m → m.due ≡ true =
    λ m at. let told_due = told (λ x. x.due) now.array k m c.due.result c.due.ensures at in let yes = c.if-not-due.false in cc in
    let refused = record_stops mid new k e.sound e.pending (s.ready.halted ∙ inv.stores.ready.halted ∙ c.requires.running) s.step.sound (still_recorded k now mid s) fault e.gives e.event in
    let is : c.from_residual-in_err-record.result ≡ Err (of_store fault) = search rules in
    rw is (stops_on IsRecording old now new (of_store fault) inv.stores
    (stops_after k now mid s new (header_due now.array k due) (in_sync_due k now mid s due inv.done) (of_store fault) refused))

pub returns-in_err-record-clause-in_sync : goal.returns-in_err-record-clause-in_sync
returns-in_err-record-clause-in_sync g c =
    let k = c.loop-k.k in
    let now = c.loop-k.mirror in
    let mid = c.store_sector.new.mirror in
    let new = c.record.new.self in
    let inv = c.loop-k.invariant in
    let s = c.in_ok-store_sector.ensures in
    let e = c.in_err-record.ensures in
    let fault = c.in_err-record.field-0.0 in
    let refused = record_stops mid new k e.sound e.pending (s.ready.halted ∙ inv.stores.ready.halted ∙ c.requires.running) s.step.sound (still_recorded k now mid s) fault e.gives e.event in
    let is : c.from_residual-in_err-record.result ≡ Err (of_store fault) = search rules in
    rw is (in_sync_before c.args.mirror.now.array now.array (of_store fault) inv.stores.ready (record_in_sync k now mid s new (of_store fault) refused))

pub loop-k-preserved : goal.loop-k-preserved
loop-k-preserved g c =
    let k = c.loop-k.k in
    let old = c.args.mirror.now in
    let now = c.loop-k.mirror in
    let mid = c.store_sector.new.mirror in
    let new = c.record.new.self in
    let inv = c.loop-k.invariant in
    let s = c.in_ok-store_sector.ensures in
    let e = c.in_ok-record.ensures in
    let due : (m : MemberView) → IsMember now.array k m → m.due ≡ true =
    λ m at. let told_due = told (λ x. x.due) now.array k m c.due.result c.due.ensures at in let yes = c.if-not-due.false in cc in
    below_more IsRecording IsNotDue k old now new (records_last old.array.marks) inv
    (recorded_after k now mid s new (header_due now.array k due) (in_sync_due k now mid s due inv.done) (record_stored mid new k e.sound e.pending e.gives e.event))

pub returns-clause-gives : goal.returns-clause-gives
returns-clause-gives g c =
    let past = c.loop-k-test.false in
    let count = c.members-k-end.ensures in
    let many = c.loop-k.invariant.stores.goes.array.as_many in
    below_all IsRecording IsNotDue c.loop-k.k c.args.mirror.now c.loop-k.mirror (omega arith) c.loop-k.invariant
