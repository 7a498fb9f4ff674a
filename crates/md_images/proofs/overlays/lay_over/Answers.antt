use Rattle.std.proofs.Common.{rules}
use Rattle.std.proofs.lemmas.Iterator.{items_from_collect, YieldsList-from_map, YieldsList-from_slice}
use Rattle.md_images.specs.Overlays.{overlay_over}
use Rattle.md_images.proofs.overlays.lay_over.Goals as goal

pub returns : goal.returns
returns g c = items_from_collect _ c.collect.ensures.ran (YieldsList-from_map _ (overlay_over g.D.Device.content) (YieldsList-from_slice c.args.devices.now cc) c.map.ensures.closure (λ x r q k. search rules))
