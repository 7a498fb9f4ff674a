use Rattle.std.proofs.Common.{◌≡◌, List, length, map, refl, ap, sym, ◌∙◌, arith, subst}
use Rattle.std.specs.List.{All}
use Rattle.md_cert.specs.declared.slots.Slot.{Slot}
use Rattle.md_pass.specs.declared.source_reading.Reading.{Reading}
use Rattle.md_pass.specs.Places.{AreInTurn}
use Rattle.md_pass.specs.Readings.{HaveFirstMemory, IsOrderOf}
use Rattle.md_pass.proofs.Orders.{few_slots}
use Rattle.md_pass.proofs.PassSources.{with_slots}
use Rattle.md_pass.proofs.preparing.prepare.Goals as goal

pub overflow_cast-many : goal.overflow_cast-many
overflow_cast-many c =
    let few = few_slots c.args.pass.now.chunks c.args.pass.now.plan.now.slots c.requires.planned in
    let e = ap length c.as_slice-slots.ensures in
    omega (arith, few, e)

pub returns : goal.returns
returns c =
    let slots = c.args.pass.now.plan.now.slots in
    let own = c.in_ok-collector.ensures.slots in
    let told : c.as_slice-slots.result.now ≡ slots = c.as_slice-slots.ensures in
    record {
      copy = rw (own, c.in_ok-collector.ensures.chunks, c.in_ok-collector.ensures.offset) refl;
      ordered = record {
        fresh = c.in_ok-collector.ensures.fresh;
        chunks = sym c.in_ok-collector.ensures.chunks;
        slots = ap length (own ∙ sym told);
        orders = subst (λ (xs : List Slot). All (λ (r : Reading). IsOrderOf xs r.source.role r.chunks.items) c.in_ok-readings.readings.items) (told ∙ sym own) c.in_ok-readings.ensures.chunks;
        some = (let most = c.batch_of-most.ensures in omega (arith, most));
        first_memory = rw c.in_ok-collector.ensures.chunks (subst (λ (rs : List Reading). HaveFirstMemory c.args.pass.now.chunks c.batch_of-most.result rs c.in_ok-waiting.waiting.items) c.as_slice.ensures.value c.in_ok-waiting.ensures);
        later_memory = rw c.in_ok-collector.ensures.chunks c.in_ok-readings.ensures.memory;
        places = subst (λ (rs : List Reading). AreInTurn (map (λ (r : Reading). r.source.place) rs) c.in_ok-places.places.items) c.as_slice-2.ensures.value c.in_ok-places.ensures;
      };
      reads = c.in_ok-readings.ensures.sources ∙ ap (λ xs. with_slots xs c.args.pass.now.sources.now) told;
    }
