use Rattle.std.proofs.Common.{◌≡◌, None, true, false, refl, ◌∙◌}
use Rattle.md_images.specs.MemImages.{holds_in}
use Rattle.md_images.proofs.MemPlaces.{looked_up, sets_device, no_place}
use Rattle.md_images.proofs.memory_images.MemImagesImages.put.Goals as goal

pub returns-in-Some-clause-places : goal.returns-in-Some-clause-places
returns-in-Some-clause-places g c known = (sets_device c.args.self.now c.self.inside.places.items c.as_slice.result.now c.args.name.now c.in-Some.at c.index_mut.result.now c.replace.new.self c.index_mut.result.now.asked c.self.view_is c.as_slice.ensures.value c.in-Some.ensures c.index_mut.ensures.value).places

pub returns-in-Some-clause-rights : goal.returns-in-Some-clause-rights
returns-in-Some-clause-rights g c known = (sets_device c.args.self.now c.self.inside.places.items c.as_slice.result.now c.args.name.now c.in-Some.at c.index_mut.result.now c.replace.new.self c.index_mut.result.now.asked c.self.view_is c.as_slice.ensures.value c.in-Some.ensures c.index_mut.ensures.value).rights

pub returns-in-Some-clause-asked : goal.returns-in-Some-clause-asked
returns-in-Some-clause-asked g c known = (sets_device c.args.self.now c.self.inside.places.items c.as_slice.result.now c.args.name.now c.in-Some.at c.index_mut.result.now c.replace.new.self c.index_mut.result.now.asked c.self.view_is c.as_slice.ensures.value c.in-Some.ensures c.index_mut.ensures.value).same_asked refl

pub returns-in-Some-clause-back : goal.returns-in-Some-clause-back
returns-in-Some-clause-back g c known = (sets_device c.args.self.now c.self.inside.places.items c.as_slice.result.now c.args.name.now c.in-Some.at c.index_mut.result.now c.replace.new.self c.index_mut.result.now.asked c.self.view_is c.as_slice.ensures.value c.in-Some.ensures c.index_mut.ensures.value).after ∙ c.replace.ensures.after

pub returns-in-Some-clause-others : goal.returns-in-Some-clause-others
returns-in-Some-clause-others g c known = (sets_device c.args.self.now c.self.inside.places.items c.as_slice.result.now c.args.name.now c.in-Some.at c.index_mut.result.now c.replace.new.self c.index_mut.result.now.asked c.self.view_is c.as_slice.ensures.value c.in-Some.ensures c.index_mut.ensures.value).others

pub returns-in_default-clause-back : goal.returns-in_default-clause-back
returns-in_default-clause-back g c known =
    let none : holds_in c.args.self.now c.args.name.now ≡ false = no_place c.args.self.now c.args.name.now (looked_up c.args.self.now c.self.inside.places.items c.as_slice.result.now c.args.name.now None c.self.view_is c.as_slice.ensures.value c.in_default.ensures) in
    let held : holds_in c.args.self.now c.args.name.now ≡ true = c.requires refl in
    absurd cc
