use Rattle.std.proofs.Common.{◌*◌, ◌∙◌, ap}
use Rattle.std.proofs.lemmas.Result.{err_from_is_err_and}
use Rattle.md_bitmap.specs.declared.chunks.Chunks.{Chunks}
use Rattle.md_write.proofs.LoweredFirst.{has_lowered, round_stops, round_then}
use Rattle.md_write.proofs.WrittenData.{marked_then, marks_stop, others_stop, recorded_then, records_stop, unsaid_then, writes_or_stops}
use Rattle.md_write.proofs.whole_write.write_once.Goals as goal

pub store_marks_of_chunks-requires-clause-running : goal.store_marks_of_chunks-requires-clause-running
store_marks_of_chunks-requires-clause-running g c =
    let l = has_lowered c.args.pending.now c.args.first c.args.end (c.from.result * c.from-2.result) c.args.mirror.now c.lower_offsets.new.mirror c.requires.pending c.requires.chunks
    ((λ i. c.from.ensures i * c.from-2.ensures i) ∙ ap (λ (x : Chunks). c.args.first * x.sectors) c.chunks-sectors.ensures) c.lower_offsets.ensures in
    l.halted ∙ c.requires.running

pub store_marks_of_chunks-requires-clause-marked : goal.store_marks_of_chunks-requires-clause-marked
store_marks_of_chunks-requires-clause-marked g c =
    let l = has_lowered c.args.pending.now c.args.first c.args.end (c.from.result * c.from-2.result) c.args.mirror.now c.lower_offsets.new.mirror c.requires.pending c.requires.chunks
    ((λ i. c.from.ensures i * c.from-2.ensures i) ∙ ap (λ (x : Chunks). c.args.first * x.sectors) c.chunks-sectors.ensures) c.lower_offsets.ensures in
    l.chunks.are

pub returns-in_err-store_marks_of_chunks : goal.returns-in_err-store_marks_of_chunks
returns-in_err-store_marks_of_chunks g c =
    let p = c.args.pending.now in
    let first = c.args.first in
    let end = c.args.end in
    let old = c.args.mirror.now in
    let a = c.lower_offsets.new.mirror in
    let l = has_lowered c.args.pending.now c.args.first c.args.end (c.from.result * c.from-2.result) c.args.mirror.now c.lower_offsets.new.mirror c.requires.pending c.requires.chunks
    ((λ i. c.from.ensures i * c.from-2.ensures i) ∙ ap (λ (x : Chunks). c.args.first * x.sectors) c.chunks-sectors.ensures) c.lower_offsets.ensures in
    let fault = c.in_err-store_marks_of_chunks.field-0.0 in
    let passed = err_from_is_err_and c.from_residual.result c.from_residual.ensures.1 in
    rw (passed.1, passed.2) (round_stops p p first end old a c.store_marks_of_chunks.new.mirror l fault
    (marks_stop p first end a l.chunks c.store_marks_of_chunks.new.mirror l.pending fault c.in_err-store_marks_of_chunks.ensures))

pub store_records-requires-clause-sound : goal.store_records-requires-clause-sound
store_records-requires-clause-sound g c = c.in_ok-store_marks_of_chunks.ensures.stores.goes.sound

pub store_records-requires-clause-running : goal.store_records-requires-clause-running
store_records-requires-clause-running g c =
    let l = has_lowered c.args.pending.now c.args.first c.args.end (c.from.result * c.from-2.result) c.args.mirror.now c.lower_offsets.new.mirror c.requires.pending c.requires.chunks
    ((λ i. c.from.ensures i * c.from-2.ensures i) ∙ ap (λ (x : Chunks). c.args.first * x.sectors) c.chunks-sectors.ensures) c.lower_offsets.ensures in
    c.in_ok-store_marks_of_chunks.ensures.stores.ready.halted ∙ l.halted ∙ c.requires.running

pub returns-in_err-store_records : goal.returns-in_err-store_records
returns-in_err-store_records g c =
    let p = c.args.pending.now in
    let first = c.args.first in
    let end = c.args.end in
    let old = c.args.mirror.now in
    let a = c.lower_offsets.new.mirror in
    let l = has_lowered c.args.pending.now c.args.first c.args.end (c.from.result * c.from-2.result) c.args.mirror.now c.lower_offsets.new.mirror c.requires.pending c.requires.chunks
    ((λ i. c.from.ensures i * c.from-2.ensures i) ∙ ap (λ (x : Chunks). c.args.first * x.sectors) c.chunks-sectors.ensures) c.lower_offsets.ensures in
    let fault = c.in_err-store_records.field-0.0 in
    let passed = err_from_is_err_and c.from_residual-in_err-store_records.result c.from_residual-in_err-store_records.ensures.1 in
    rw (passed.1, passed.2) (round_stops p p first end old a c.store_records.new.mirror l fault
    (records_stop p first end a l.chunks c.store_marks_of_chunks.new.mirror l.pending c.store_records.new.mirror c.in_ok-store_marks_of_chunks.ensures.stores fault c.in_err-store_records.ensures.gives))

pub store_other_records-requires-clause-sound : goal.store_other_records-requires-clause-sound
store_other_records-requires-clause-sound g c = c.in_ok-store_records.ensures.gives.stores.goes.sound

pub store_other_records-requires-clause-running : goal.store_other_records-requires-clause-running
store_other_records-requires-clause-running g c =
    let l = has_lowered c.args.pending.now c.args.first c.args.end (c.from.result * c.from-2.result) c.args.mirror.now c.lower_offsets.new.mirror c.requires.pending c.requires.chunks
    ((λ i. c.from.ensures i * c.from-2.ensures i) ∙ ap (λ (x : Chunks). c.args.first * x.sectors) c.chunks-sectors.ensures) c.lower_offsets.ensures in
    c.in_ok-store_records.ensures.gives.stores.ready.halted ∙ c.in_ok-store_marks_of_chunks.ensures.stores.ready.halted ∙ l.halted ∙ c.requires.running

pub store_other_records-requires-clause-recorded : goal.store_other_records-requires-clause-recorded
store_other_records-requires-clause-recorded g c = c.in_ok-store_records.ensures.gives.done

pub returns-in_err-store_other_records : goal.returns-in_err-store_other_records
returns-in_err-store_other_records g c =
    let p = c.args.pending.now in
    let first = c.args.first in
    let end = c.args.end in
    let old = c.args.mirror.now in
    let a = c.lower_offsets.new.mirror in
    let l = has_lowered c.args.pending.now c.args.first c.args.end (c.from.result * c.from-2.result) c.args.mirror.now c.lower_offsets.new.mirror c.requires.pending c.requires.chunks
    ((λ i. c.from.ensures i * c.from-2.ensures i) ∙ ap (λ (x : Chunks). c.args.first * x.sectors) c.chunks-sectors.ensures) c.lower_offsets.ensures in
    let fault = c.in_err-store_other_records.field-0.0 in
    let passed = err_from_is_err_and c.from_residual-in_err-store_other_records.result c.from_residual-in_err-store_other_records.ensures.1 in
    rw (passed.1, passed.2) (round_stops p p first end old a c.store_other_records.new.mirror l fault
    (others_stop p first end a l.chunks c.store_marks_of_chunks.new.mirror l.pending c.store_records.new.mirror c.in_ok-store_marks_of_chunks.ensures.stores
    c.store_other_records.new.mirror c.in_ok-store_records.ensures.gives.stores fault c.in_err-store_other_records.ensures))

pub write_to_members-requires-clause-sound : goal.write_to_members-requires-clause-sound
write_to_members-requires-clause-sound g c = c.in_ok-store_other_records.ensures.stores.goes.sound

pub write_to_members-requires-clause-pending : goal.write_to_members-requires-clause-pending
write_to_members-requires-clause-pending g c =
    let p = c.args.pending.now in
    let l = has_lowered c.args.pending.now c.args.first c.args.end (c.from.result * c.from-2.result) c.args.mirror.now c.lower_offsets.new.mirror c.requires.pending c.requires.chunks
    ((λ i. c.from.ensures i * c.from-2.ensures i) ∙ ap (λ (x : Chunks). c.args.first * x.sectors) c.chunks-sectors.ensures) c.lower_offsets.ensures in
    c.in_ok-store_other_records.ensures.stores.goes.pending p
    (c.in_ok-store_records.ensures.gives.stores.goes.pending p (c.in_ok-store_marks_of_chunks.ensures.stores.goes.pending p l.pending))

pub write_to_members-requires-clause-running : goal.write_to_members-requires-clause-running
write_to_members-requires-clause-running g c =
    let l = has_lowered c.args.pending.now c.args.first c.args.end (c.from.result * c.from-2.result) c.args.mirror.now c.lower_offsets.new.mirror c.requires.pending c.requires.chunks
    ((λ i. c.from.ensures i * c.from-2.ensures i) ∙ ap (λ (x : Chunks). c.args.first * x.sectors) c.chunks-sectors.ensures) c.lower_offsets.ensures in
    c.in_ok-store_other_records.ensures.stores.ready.halted ∙ c.in_ok-store_records.ensures.gives.stores.ready.halted ∙ c.in_ok-store_marks_of_chunks.ensures.stores.ready.halted
    ∙ l.halted ∙ c.requires.running

pub write_to_members-requires-clause-marked : goal.write_to_members-requires-clause-marked
write_to_members-requires-clause-marked g c =
    let l = has_lowered c.args.pending.now c.args.first c.args.end (c.from.result * c.from-2.result) c.args.mirror.now c.lower_offsets.new.mirror c.requires.pending c.requires.chunks
    ((λ i. c.from.ensures i * c.from-2.ensures i) ∙ ap (λ (x : Chunks). c.args.first * x.sectors) c.chunks-sectors.ensures) c.lower_offsets.ensures in
    let p = c.args.pending.now in
    let d = c.store_other_records.new.mirror in
    marked_then p p c.args.first c.args.end c.lower_offsets.new.mirror c.store_marks_of_chunks.new.mirror c.store_records.new.mirror d d l.pending l.chunks
    c.in_ok-store_marks_of_chunks.ensures c.in_ok-store_records.ensures.gives c.in_ok-store_other_records.ensures

pub write_to_members-requires-clause-recorded : goal.write_to_members-requires-clause-recorded
write_to_members-requires-clause-recorded g c =
    let l = has_lowered c.args.pending.now c.args.first c.args.end (c.from.result * c.from-2.result) c.args.mirror.now c.lower_offsets.new.mirror c.requires.pending c.requires.chunks
    ((λ i. c.from.ensures i * c.from-2.ensures i) ∙ ap (λ (x : Chunks). c.args.first * x.sectors) c.chunks-sectors.ensures) c.lower_offsets.ensures in
    let p = c.args.pending.now in
    let d = c.store_other_records.new.mirror in
    recorded_then p p c.args.first c.args.end c.lower_offsets.new.mirror c.store_marks_of_chunks.new.mirror c.store_records.new.mirror d d l.pending l.chunks
    c.in_ok-store_marks_of_chunks.ensures c.in_ok-store_records.ensures.gives c.in_ok-store_other_records.ensures

pub write_to_members-requires-clause-unsaid : goal.write_to_members-requires-clause-unsaid
write_to_members-requires-clause-unsaid g c =
    let l = has_lowered c.args.pending.now c.args.first c.args.end (c.from.result * c.from-2.result) c.args.mirror.now c.lower_offsets.new.mirror c.requires.pending c.requires.chunks
    ((λ i. c.from.ensures i * c.from-2.ensures i) ∙ ap (λ (x : Chunks). c.args.first * x.sectors) c.chunks-sectors.ensures) c.lower_offsets.ensures in
    let p = c.args.pending.now in
    let d = c.store_other_records.new.mirror in
    unsaid_then p p c.args.first c.args.end c.lower_offsets.new.mirror c.store_marks_of_chunks.new.mirror c.store_records.new.mirror d d l.pending l.chunks
    c.in_ok-store_marks_of_chunks.ensures c.in_ok-store_records.ensures.gives c.in_ok-store_other_records.ensures l.lowered

pub returns : goal.returns
returns g c =
    let p = c.args.pending.now in
    let first = c.args.first in
    let end = c.args.end in
    let old = c.args.mirror.now in
    let a = c.lower_offsets.new.mirror in
    let l = has_lowered c.args.pending.now c.args.first c.args.end (c.from.result * c.from-2.result) c.args.mirror.now c.lower_offsets.new.mirror c.requires.pending c.requires.chunks
    ((λ i. c.from.ensures i * c.from-2.ensures i) ∙ ap (λ (x : Chunks). c.args.first * x.sectors) c.chunks-sectors.ensures) c.lower_offsets.ensures in
    let q = c.write_to_members.new.pending in
    let new = c.write_to_members.new.mirror in
    round_then p q first end old a new l c.write_to_members.result
    (writes_or_stops p q first end a c.store_marks_of_chunks.new.mirror c.store_records.new.mirror c.store_other_records.new.mirror new l.pending l.chunks
    c.in_ok-store_marks_of_chunks.ensures c.in_ok-store_records.ensures.gives c.in_ok-store_other_records.ensures (l.halted ∙ c.requires.running) c.write_to_members.result c.write_to_members.ensures)
