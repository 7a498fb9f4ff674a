use Rattle.std.proofs.Common.{◌∙◌, ◌+◌, ◌/◌, arith, length-set, refl, slice_index}
use Rattle.uuid.proofs.TextLemmas.{by_index_same, place_written}
use Rattle.md_cli.proofs.create.set_uuid.without_colons.Goals as goal

pub loop-place-preserved : goal.loop-place-preserved
loop-place-preserved c =
    let inv = c.loop-place.invariant in
    let place = c.loop-place.place in record {
      long = length-set c.loop-place.digits place _ ∙ inv.long;
      each = place_written c.loop-place.digits place _ (λ i. slice_index c.args.text.now (i + i / 8)) (omega arith) inv.each refl;
    }

pub returns : goal.returns
returns c =
    let inv = c.loop-place.invariant in
    by_index_same c.loop-place.digits 32 (λ i. slice_index c.args.text.now (i + i / 8)) inv.long (λ i d h. inv.each i d (omega arith))
