use Rattle.std.proofs.Common.{◌≡◌, None, sym, ◌∙◌, rules}
use Rattle.md_images.specs.MemImages.{device_in}
use Rattle.md_images.proofs.MemPlaces.{looked_up, sets_device, no_device}
use Rattle.md_images.proofs.memory_images.MemImages.device.Goals as goal

pub returns-in_err-at : goal.returns-in_err-at
returns-in_err-at g c =
    let none : device_in c.args.self.now c.args.name.now ≡ None = no_device c.args.self.now c.args.name.now (looked_up c.args.self.now c.self.inside.places.items c.as_slice.result.now c.args.name.now None c.self.view_is c.as_slice.ensures.value c.in_err-at.ensures) in
    rw none (search rules)

pub returns : goal.returns
returns g c =
    c.as_ref.ensures.value ∙ sym (sets_device c.args.self.now c.self.inside.places.items c.as_slice.result.now c.args.name.now c.in_ok-at.at c.index.result.now None c.index.result.now.asked c.self.view_is c.as_slice.ensures.value c.in_ok-at.ensures c.index.ensures).before
