use Rattle.std.proofs.Common.{◌≡◌, ◌∙◌, Bool, Err, rules, subst}
use Rattle.md_metadata.specs.Faults.{of_part}
use Rattle.md_metadata.specs.Storing.{StoringFails}
use Rattle.md_metadata.specs.Stopping.{IsStoringIf, StoresCleaned}
use Rattle.md_metadata.proofs.Stopped.{others_stop, settled_halted, settled_stops, settled_stored, stop_refused, stops}
use Rattle.md_metadata.proofs.whole_stop.stop.Goals as goal

pub store_marks_if-requires-clause-running : goal.store_marks_if-requires-clause-running
store_marks_if-requires-clause-running g c =
    settled_halted c.args.mirror.now c.clear_if_full.new.mirror c.clean_if_active.new.mirror c.clear_if_full.ensures c.clean_if_active.ensures ∙ c.in_ok-check_stop.ensures.idle.running

pub store_records-requires-clause-running : goal.store_records-requires-clause-running
store_records-requires-clause-running g c =
    c.in_ok-store_marks_if.ensures.stores.ready.halted
    ∙ settled_halted c.args.mirror.now c.clear_if_full.new.mirror c.clean_if_active.new.mirror c.clear_if_full.ensures c.clean_if_active.ensures ∙ c.in_ok-check_stop.ensures.idle.running

pub store_other_records-requires-clause-running : goal.store_other_records-requires-clause-running
store_other_records-requires-clause-running g c =
    c.in_ok-store_records.ensures.gives.stores.ready.halted ∙ c.in_ok-store_marks_if.ensures.stores.ready.halted
    ∙ settled_halted c.args.mirror.now c.clear_if_full.new.mirror c.clean_if_active.new.mirror c.clear_if_full.ensures c.clean_if_active.ensures ∙ c.in_ok-check_stop.ensures.idle.running

pub returns-in_err-store_marks_if-clause-gives : goal.returns-in_err-store_marks_if-clause-gives
returns-in_err-store_marks_if-clause-gives g c =
    let old = c.args.mirror.now in
    let b = c.clear_if_full.new.mirror in
    let d = c.clean_if_active.new.mirror in
    let e = c.store_marks_if.new.mirror in
    let fault = c.in_err-store_marks_if.field-0.0 in
    let is : c.from_residual-in_err-store_marks_if.result ≡ Err (of_part fault) = search rules in
    rw is (stop_refused old b d c.clear_if_full.ensures c.clean_if_active.ensures c.in_ok-check_stop.ensures e fault
    (subst (λ (x : Bool). StoringFails (IsStoringIf x) d e fault) c.clears_marks-clears.ensures c.in_err-store_marks_if.ensures))

pub returns-in_err-store_records-clause-gives : goal.returns-in_err-store_records-clause-gives
returns-in_err-store_records-clause-gives g c =
    let clears = c.clears_marks-clears.result in
    let old = c.args.mirror.now in
    let b = c.clear_if_full.new.mirror in
    let d = c.clean_if_active.new.mirror in
    let e = c.store_records.new.mirror in
    let fault = c.in_err-store_records.field-0.0 in
    let is : c.from_residual-in_err-store_records.result ≡ Err (of_part fault) = search rules in
    rw is (stop_refused old b d c.clear_if_full.ensures c.clean_if_active.ensures c.in_ok-check_stop.ensures e fault
    (subst (λ (x : Bool). StoringFails (IsStoringIf x) d e fault) c.clears_marks-clears.ensures
    (settled_stops clears d c.store_marks_if.new.mirror e fault c.in_ok-store_marks_if.ensures c.in_err-store_records.ensures.gives)))

pub returns-in_err-store_other_records-clause-gives : goal.returns-in_err-store_other_records-clause-gives
returns-in_err-store_other_records-clause-gives g c =
    let clears = c.clears_marks-clears.result in
    let old = c.args.mirror.now in
    let b = c.clear_if_full.new.mirror in
    let d = c.clean_if_active.new.mirror in
    let e = c.store_other_records.new.mirror in
    let fault = c.in_err-store_other_records.field-0.0 in
    let is : c.from_residual-in_err-store_other_records.result ≡ Err (of_part fault) = search rules in
    rw is (stop_refused old b d c.clear_if_full.ensures c.clean_if_active.ensures c.in_ok-check_stop.ensures e fault
    (subst (λ (x : Bool). StoringFails (IsStoringIf x) d e fault) c.clears_marks-clears.ensures
    (others_stop clears d c.store_marks_if.new.mirror c.store_records.new.mirror e c.in_ok-store_marks_if.ensures c.in_ok-store_records.ensures.gives fault c.in_err-store_other_records.ensures)))

pub returns-clause-gives : goal.returns-clause-gives
returns-clause-gives g c =
    let clears = c.clears_marks-clears.result in
    let old = c.args.mirror.now in
    let b = c.clear_if_full.new.mirror in
    let d = c.clean_if_active.new.mirror in
    let e = c.store_other_records.new.mirror in
    stops old b d c.clear_if_full.ensures c.clean_if_active.ensures c.in_ok-check_stop.ensures e
    (subst (λ (x : Bool). StoresCleaned x d e) c.clears_marks-clears.ensures
    (settled_stored clears d c.store_marks_if.new.mirror c.store_records.new.mirror e c.in_ok-store_marks_if.ensures c.in_ok-store_records.ensures.gives c.in_ok-store_other_records.ensures))
