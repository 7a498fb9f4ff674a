use Rattle.std.proofs.Common.{◌∙◌, ℕ, List, ap, length, refl, rules, subst, sym}
use Rattle.std.proofs.lemmas.Option.{slice_get_read}
use Rattle.md_files.specs.Masks.Images.Masks.{IsMissingByMap, IsNoMap}
use Rattle.md_files.specs.declared.masks.images.copies.MapText.{MapText}
use Rattle.md_files.proofs.masks.images.copies.lacking.Goals as goal

pub returns-in-Ok-clause-lacks : goal.returns-in-Ok-clause-lacks
returns-in-Ok-clause-lacks g c =
    let text = c.as_slice.ensures.value ∙ ap (λ (m : MapText). m.text.items) (sym c.index-maps-place.is) in
    record {
      map = c.index-maps-place.result;
      at = slice_get_read c.args.maps.now (length c.args.maps.now) c.args.place c.index-maps-place.result refl c.requires.within c.index-maps-place.is;
      lacks = subst (λ (t : List ℕ). IsMissingByMap g.I.Images g.I.Dev.Device c.args.name.now t c.args.masked.now.images c.in-Ok.missing) text c.in-Ok.ensures.ok;
    }

pub returns-in-Err-Map-clause-refused : goal.returns-in-Err-Map-clause-refused
returns-in-Err-Map-clause-refused g c =
    let text = c.as_slice.ensures.value ∙ ap (λ (m : MapText). m.text.items) (sym c.index-maps-place.is) in
    let none : IsNoMap g.I.Images g.I.Dev.Device c.args.name.now c.as_slice.result.now c.args.masked.now.images c.in-Err-Map.fault = search rules in (
      c.requires.first,
      record {
        map = c.index-maps-place.result;
        at = slice_get_read c.args.maps.now (length c.args.maps.now) c.args.place c.index-maps-place.result refl c.requires.within c.index-maps-place.is;
        refused = subst (λ (t : List ℕ). IsNoMap g.I.Images g.I.Dev.Device c.args.name.now t c.args.masked.now.images c.in-Err-Map.fault) text none;
      },
    )
