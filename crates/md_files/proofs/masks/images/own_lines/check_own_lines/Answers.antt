use Rattle.std.proofs.Common.{◌≡◌, ℕ, length, refl, rules, arith, subst, sym}
use Rattle.std.proofs.lemmas.Option.{slice_get_read}
use Rattle.md_files.specs.Masks.Images.OwnLines.{AreOwn}
use Rattle.md_files.proofs.MaskLemmas.ImageLemmas.OwnLines.{none_other, own_next}
use Rattle.md_files.proofs.masks.images.own_lines.check_own_lines.Goals as goal

pub loop-place-init : goal.loop-place-init
loop-place-init c = none_other c.args.names.now c.args.maps.now

pub loop-place-preserved : goal.loop-place-preserved
loop-place-preserved c =
    own_next c.args.names.now c.args.maps.now c.loop-place.place c.index-maps-place.result
    (slice_get_read c.args.maps.now (length c.args.maps.now) c.loop-place.place c.index-maps-place.result refl c.loop-place-test.true c.index-maps-place.is)
    (sym c.in_default.ensures) c.loop-place.invariant

pub returns-in-Some-clause-err : goal.returns-in-Some-clause-err
returns-in-Some-clause-err c = record {
  map = c.index-maps-place.result;
  at = slice_get_read c.args.maps.now (length c.args.maps.now) c.loop-place.place c.index-maps-place.result refl c.loop-place-test.true c.index-maps-place.is;
  names_other = sym c.in-Some.ensures;
  first = c.loop-place.invariant;
}

pub returns-clause-ok : goal.returns-clause-ok
returns-clause-ok c =
    let many : c.loop-place.place ≡ length c.args.maps.now = search (rules, arith) in
    subst (λ (n : ℕ). AreOwn c.args.names.now c.args.maps.now n) many c.loop-place.invariant
