use Rattle.std.proofs.Common.{rules, ◌≡◌, ◌+◌, ◌*◌, Err, length, ap, refl, sym, ◌∙◌, arith, subst}
use Rattle.std.proofs.lemmas.List.{length-map}
use Rattle.md_collect.specs.Collecting.{copying}
use Rattle.md_pass.specs.declared.fault.PassFault.TheVariants.{NoMemory, TargetFault}
use Rattle.md_pass.specs.declared.source_reading.Reading.{Reading}
use Rattle.md_pass.specs.TakingReports.{books}
use Rattle.md_pass.specs.Places.{FitPlaces}
use Rattle.md_pass.specs.Copied.{failed_slots, pass_state}
use Rattle.md_pass.proofs.Orders.{few_slots}
use Rattle.md_pass.proofs.PassStarts.{all_fit, in_turn, memory_enough, starts, turns_enough}
use Rattle.md_pass.proofs.PassEnds.{all_told, count_failed, devices_read, fail_only_there, fail_there, has_copied, have_left, queues_parts, none_left}
use Rattle.md_pass.proofs.PassSources.{nothing_written}
use Rattle.md_pass.proofs.Totals.{total_slots}
use Rattle.md_pass.proofs.pass.copy_prepared.Goals as goal
use Rattle.md_collect.specs.Workers.Tally.{Tally}

pub new-board-requires-clause-limit : goal.new-board-requires-clause-limit
new-board-requires-clause-limit g c =
    let few = few_slots c.args.prepared.collector.chunks c.args.prepared.collector.slots c.requires.can.planned in
    omega (arith, few, c.requires.can.ordered.slots)

pub take_out-rest-requires-clause-fits : goal.take_out-rest-requires-clause-fits
take_out-rest-requires-clause-fits g c =
    all_fit c.args.devices.now.items c.args.prepared.readings.items c.as_slice-places.result.now c.requires.can.sources (in_turn c.args.prepared c.as_slice-places.result.now c.as_slice-places.ensures.value c.requires.can.ordered)

pub take_out-rest-requires-clause-slots : goal.take_out-rest-requires-clause-slots
take_out-rest-requires-clause-slots g c =
    let can = c.requires.can in
    let few = few_slots c.args.prepared.collector.chunks c.args.prepared.collector.slots can.planned in
    let total = total_slots c.args.prepared.collector.slots c.args.prepared.readings.items can.ordered.orders can.sources.rising can.sources.serves in
    let left : c.new-board.result.1.left ≡ c.args.prepared.slots = ap (λ (t : Tally). t.left) c.new-board.ensures.share in
    (omega (arith, total, left, can.ordered.slots), omega (arith, left, few, can.ordered.slots))

pub run_turns-result-requires-clause-turns : goal.run_turns-result-requires-clause-turns
run_turns-result-requires-clause-turns g c κs within =
    turns_enough (c.turns_of-count.result * c.args.prepared.most) c.args.prepared.readings.items c.take_out-rest.new.queues.items c.take_out-rest.ensures.len (rw (← c.as_slice.ensures.value) c.turns_of-count.ensures) c.take_out-rest.ensures.queues

pub run_turns-result-requires-clause-fresh : goal.run_turns-result-requires-clause-fresh
run_turns-result-requires-clause-fresh g c κs within =
    let can = c.requires.can in
    let places = c.as_slice-places.result.now in
    starts (g.D.Device.honest c.args.target.now) (books c.args.prepared.collector (g.D.Device.content c.args.target.now) c.args.copied.now) c.args.devices.now.items c.take_out-rest.new.devices.items places c.args.prepared.readings.items
    c.take_out-rest.new.queues.items can.ordered.fresh can.planned can.uncopied can.sources can.ordered.orders (in_turn c.args.prepared places c.as_slice-places.ensures.value can.ordered) can.room can.marks c.take_out-rest.ensures.len c.take_out-rest.ensures.taken c.take_out-rest.ensures.queues

pub run_turns-result-requires-clause-memory : goal.run_turns-result-requires-clause-memory
run_turns-result-requires-clause-memory g c κs within =
    let can = c.requires.can in
    rw can.ordered.chunks (memory_enough c.args.prepared.collector.chunks c.args.prepared.most c.args.prepared.readings.items c.take_out-rest.new.queues.items c.args.prepared.waiting.items c.take_out-rest.ensures.len can.ordered.first_memory can.ordered.later_memory c.take_out-rest.ensures.queues)

pub put_back-all-requires-clause-fits : goal.put_back-all-requires-clause-fits
put_back-all-requires-clause-fits g c =
    let places = c.as_slice-places.result.now in
    let turn = in_turn c.args.prepared places c.as_slice-places.ensures.value c.requires.can.ordered in
    let many = turn.as_many in
    let count : length c.args.devices.now.items ≡ length c.take_out-rest.new.devices.items + length places = (let n = length-map c.args.prepared.readings.items (λ (r : Reading). r.source.place) in omega (arith, many, n, c.take_out-rest.ensures.count)) in
    subst (λ n. FitPlaces n places) count (all_fit c.args.devices.now.items c.args.prepared.readings.items places c.requires.can.sources turn)

pub returns-in_err-queues-clause-gives : goal.returns-in_err-queues-clause-gives
returns-in_err-queues-clause-gives g c =
    let is : c.from_residual.result ≡ Err NoMemory = search rules in
    rw is refl

pub returns-in_err-queues-clause-writes : goal.returns-in_err-queues-clause-writes
returns-in_err-queues-clause-writes g c = nothing_written g.D.Device (copying c.args.prepared.collector) (pass_state c.args.devices.now.items c.args.target.now c.args.copied.now)

pub returns-in_err-result-clause-gives : goal.returns-in_err-result-clause-gives
returns-in_err-result-clause-gives g c =
    let is : c.from_residual-in_err-result.result ≡ Err TargetFault = search rules in
    rw is c.in_err-result.ensures.failed

pub returns-in_err-result-clause-writes : goal.returns-in_err-result-clause-writes
returns-in_err-result-clause-writes g c =
    let places = c.as_slice-places.result.now in
    let turn = in_turn c.args.prepared places c.as_slice-places.ensures.value c.requires.can.ordered in
    record {
      sources = devices_read c.args.devices.now.items c.put_back-all.new.devices.items c.take_out-rest.new.devices.items places c.args.prepared.readings.items c.take_out-rest.new.queues.items c.run_turns-result.new.queues.items
          c.requires.can.sources turn c.take_out-rest.ensures.taken c.put_back-all.ensures.back (let many = turn.as_many in let n = length-map c.args.prepared.readings.items (λ (r : Reading). r.source.place) in let e = c.take_out-rest.ensures.count in let b = c.put_back-all.ensures.count in omega (arith, many, n, e, b)) c.run_turns-result.ensures.sources;
      target = c.run_turns-result.ensures.target;
    }

pub audit_share-requires : goal.audit_share-requires
audit_share-requires g c =
    let can = c.requires.can in
    let total = total_slots c.args.prepared.collector.slots c.args.prepared.readings.items can.ordered.orders can.sources.rising can.sources.serves in
    let old = pass_state c.args.devices.now.items c.args.target.now c.args.copied.now in
    let left = have_left c.args.prepared old c.take_out-rest.new.devices.items c.as_slice-places.result.now c.take_out-rest.new.queues.items can c.as_slice-places.ensures.value c.take_out-rest.ensures.len c.take_out-rest.ensures.taken c.take_out-rest.ensures.queues in
    let none = none_left left c.in_ok-result.ensures.passed c.in_ok-result.ensures.done in
    let firsts = queues_parts c.args.prepared.readings.items c.take_out-rest.new.queues.items c.take_out-rest.ensures.len c.take_out-rest.ensures.queues in
    let share : c.new-board.result.1.parts ≡ c.args.prepared.slots = ap (λ (t : Tally). t.parts) c.new-board.ensures.share in
    let all : c.put_back-all.result.parts ≡ c.args.prepared.slots = omega (arith, c.put_back-all.ensures.parts, none.2, firsts, c.take_out-rest.ensures.parts, share) in
    (all ∙ sym c.requires.left.2, all ∙ sym c.requires.failed.2)

pub returns-clause-writes : goal.returns-clause-writes
returns-clause-writes g c =
    let places = c.as_slice-places.result.now in
    let turn = in_turn c.args.prepared places c.as_slice-places.ensures.value c.requires.can.ordered in
    record {
      sources = devices_read c.args.devices.now.items c.put_back-all.new.devices.items c.take_out-rest.new.devices.items places c.args.prepared.readings.items c.take_out-rest.new.queues.items c.run_turns-result.new.queues.items
          c.requires.can.sources turn c.take_out-rest.ensures.taken c.put_back-all.ensures.back (let many = turn.as_many in let n = length-map c.args.prepared.readings.items (λ (r : Reading). r.source.place) in let e = c.take_out-rest.ensures.count in let b = c.put_back-all.ensures.count in omega (arith, many, n, e, b)) c.run_turns-result.ensures.sources;
      target = c.run_turns-result.ensures.target;
    }

pub returns-clause-gives : goal.returns-clause-gives
returns-clause-gives g c =
    let can = c.requires.can in
    let total = total_slots c.args.prepared.collector.slots c.args.prepared.readings.items can.ordered.orders can.sources.rising can.sources.serves in
    let places = c.as_slice-places.result.now in
    let turn = in_turn c.args.prepared places c.as_slice-places.ensures.value can.ordered in
    let old = pass_state c.args.devices.now.items c.args.target.now c.args.copied.now in
    let left = have_left c.args.prepared old c.take_out-rest.new.devices.items places c.take_out-rest.new.queues.items can c.as_slice-places.ensures.value c.take_out-rest.ensures.len c.take_out-rest.ensures.taken c.take_out-rest.ensures.queues in
    let none = none_left left c.in_ok-result.ensures.passed c.in_ok-result.ensures.done in
    let share : c.new-board.result.1.left ≡ c.args.prepared.slots = ap (λ (t : Tally). t.left) c.new-board.ensures.share in
    let whole : c.new-board.result.1.failed ≡ 0 = ap (λ (t : Tally). t.failed) c.new-board.ensures.share in
    let rest : c.put_back-all.result.left ≡ 0 = omega (arith, c.put_back-all.ensures.left, none.0, c.take_out-rest.ensures.left, share, total, can.ordered.slots) in
    let failed : c.put_back-all.result.failed ≡ length (failed_slots c.args.prepared.collector.slots c.run_turns-result.new.copied) = omega (arith, c.put_back-all.ensures.failed, none.1, c.take_out-rest.ensures.failed, whole) in
    record {
      copied = has_copied c.args.target.now c.run_turns-result.new.target c.args.prepared.collector c.run_turns-result.new.collector c.args.copied.now c.run_turns-result.new.copied left c.in_ok-result.ensures.passed;
      none_left = c.left.ensures ∙ c.audit_share.ensures.left ∙ rest;
      failed = c.failed.ensures ∙ c.audit_share.ensures.failed ∙ failed;
      counted = count_failed left c.in_ok-result.ensures.passed c.in_ok-result.ensures.done c.put_back-all.new.devices.items (let many = turn.as_many in let n = length-map c.args.prepared.readings.items (λ (r : Reading). r.source.place) in let e = c.take_out-rest.ensures.count in let b = c.put_back-all.ensures.count in omega (arith, many, n, e, b)) c.put_back-all.ensures.back;
      there = fail_there left c.in_ok-result.ensures.passed c.in_ok-result.ensures.done c.put_back-all.new.devices.items (let many = turn.as_many in let n = length-map c.args.prepared.readings.items (λ (r : Reading). r.source.place) in let e = c.take_out-rest.ensures.count in let b = c.put_back-all.ensures.count in omega (arith, many, n, e, b)) c.put_back-all.ensures.back;
      only_there = fail_only_there left c.in_ok-result.ensures.passed c.in_ok-result.ensures.done c.put_back-all.new.devices.items (let many = turn.as_many in let n = length-map c.args.prepared.readings.items (λ (r : Reading). r.source.place) in let e = c.take_out-rest.ensures.count in let b = c.put_back-all.ensures.count in omega (arith, many, n, e, b)) c.put_back-all.ensures.back;
    }

pub returns-clause-told : goal.returns-clause-told
returns-clause-told g c =
    let can = c.requires.can in
    let old = pass_state c.args.devices.now.items c.args.target.now c.args.copied.now in
    let left = have_left c.args.prepared old c.take_out-rest.new.devices.items c.as_slice-places.result.now c.take_out-rest.new.queues.items can c.as_slice-places.ensures.value c.take_out-rest.ensures.len c.take_out-rest.ensures.taken c.take_out-rest.ensures.queues in
    all_told left c.in_ok-result.ensures.passed c.in_ok-result.ensures.done g.G.Gate c.args.workers.now.gate.now c.in_ok-result.ensures.told
