use Rattle.std.proofs.Common.{◌≡◌, ◌||◌, None, true, false, refl, inl, inr, sym, ap, ◌∙◌, rules}
use Rattle.std.proofs.lemmas.Bool.{or_right}
use Rattle.md_images.specs.Images.{allows, asks}
use Rattle.md_images.proofs.MemPlaces.{looked_up, sets_place, gives_device, gone_device, no_device, on_ok, rights_at, same_or}
use Rattle.md_images.proofs.memory_images.MemImagesImages.get.Goals as goal

pub returns-in_default-clause-gives : goal.returns-in_default-clause-gives
returns-in_default-clause-gives g c known = inl (no_device c.args.self.now c.args.name.now (looked_up c.args.self.now c.self.inside.places.items c.as_slice.result.now c.args.name.now None c.self.view_is c.as_slice.ensures.value c.in_default.ensures))

pub returns-then-not-is_allowed-clause-gives : goal.returns-then-not-is_allowed-clause-gives
returns-then-not-is_allowed-clause-gives g c known =
    let no : c.is_allowed.result ≡ false = search rules in
    inr (ap (allows c.args.access) (rights_at c.args.self.now c.self.inside.places.items c.as_slice.result.now c.args.name.now c.in-Some.at c.index.result.now c.self.view_is c.as_slice.ensures.value c.in-Some.ensures c.index.ensures) ∙ sym c.is_allowed.ensures ∙ no, refl)

pub returns-clause-places : goal.returns-clause-places
returns-clause-places g c known = (sets_place c.args.self.now c.self.inside.places.items c.as_slice.result.now c.args.name.now c.in-Some.at c.index_mut.result.now c.take_out.new.place None (c.index_mut.result.now.asked || asks c.args.access) c.self.view_is c.as_slice.ensures.value c.in-Some.ensures c.index_mut.ensures.value c.take_out.ensures.place).places

pub returns-clause-rights : goal.returns-clause-rights
returns-clause-rights g c known = (sets_place c.args.self.now c.self.inside.places.items c.as_slice.result.now c.args.name.now c.in-Some.at c.index_mut.result.now c.take_out.new.place None (c.index_mut.result.now.asked || asks c.args.access) c.self.view_is c.as_slice.ensures.value c.in-Some.ensures c.index_mut.ensures.value c.take_out.ensures.place).rights

pub returns-clause-gives : goal.returns-clause-gives
returns-clause-gives g c known =
    let sets = sets_place c.args.self.now c.self.inside.places.items c.as_slice.result.now c.args.name.now c.in-Some.at c.index_mut.result.now c.take_out.new.place None (c.index_mut.result.now.asked || asks c.args.access) c.self.view_is c.as_slice.ensures.value c.in-Some.ensures c.index_mut.ensures.value c.take_out.ensures.place in
    gives_device c.args.self.now c.args.name.now c.index_mut.result.now.device c.take_out.result _ _ c.ok_or.result c.ok_or.ensures.value c.take_out.ensures.device sets.held sets.before

pub returns-clause-allowed : goal.returns-clause-allowed
returns-clause-allowed g c known =
    let yes : c.is_allowed.result ≡ true = search rules in
    on_ok c.ok_or.result (ap (allows c.args.access) (rights_at c.args.self.now c.self.inside.places.items c.as_slice.result.now c.args.name.now c.in-Some.at c.index.result.now c.self.view_is c.as_slice.ensures.value c.in-Some.ensures c.index.ensures) ∙ sym c.is_allowed.ensures ∙ yes)

pub returns-clause-gone : goal.returns-clause-gone
returns-clause-gone g c known =
    let sets = sets_place c.args.self.now c.self.inside.places.items c.as_slice.result.now c.args.name.now c.in-Some.at c.index_mut.result.now c.take_out.new.place None (c.index_mut.result.now.asked || asks c.args.access) c.self.view_is c.as_slice.ensures.value c.in-Some.ensures c.index_mut.ensures.value c.take_out.ensures.place in
    gone_device _ _ c.index_mut.result.now.device c.take_out.result _ c.ok_or.result c.ok_or.ensures.value c.take_out.ensures.device sets.after sets.before

pub returns-clause-others : goal.returns-clause-others
returns-clause-others g c known = (sets_place c.args.self.now c.self.inside.places.items c.as_slice.result.now c.args.name.now c.in-Some.at c.index_mut.result.now c.take_out.new.place None (c.index_mut.result.now.asked || asks c.args.access) c.self.view_is c.as_slice.ensures.value c.in-Some.ensures c.index_mut.ensures.value c.take_out.ensures.place).others

pub returns-clause-looks : goal.returns-clause-looks
returns-clause-looks g c known look =
    let sets = sets_place c.args.self.now c.self.inside.places.items c.as_slice.result.now c.args.name.now c.in-Some.at c.index_mut.result.now c.take_out.new.place None (c.index_mut.result.now.asked || asks c.args.access) c.self.view_is c.as_slice.ensures.value c.in-Some.ensures c.index_mut.ensures.value c.take_out.ensures.place in
    sets.same_asked (same_or c.index_mut.result.now.asked (asks c.args.access) look)

pub returns-clause-asks : goal.returns-clause-asks
returns-clause-asks g c known asks_it =
    let sets = sets_place c.args.self.now c.self.inside.places.items c.as_slice.result.now c.args.name.now c.in-Some.at c.index_mut.result.now c.take_out.new.place None (c.index_mut.result.now.asked || asks c.args.access) c.self.view_is c.as_slice.ensures.value c.in-Some.ensures c.index_mut.ensures.value c.take_out.ensures.place in
    on_ok c.ok_or.result (sets.asked ∙ or_right c.index_mut.result.now.asked (asks c.args.access) asks_it)
