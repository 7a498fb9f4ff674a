use Rattle.std.proofs.Common.{ap}
use Rattle.md_device.specs.Overlay.{Overlay}
use Rattle.md_device.proofs.LaidOver.{seen_outside}
use Rattle.md_device.proofs.overlay.OverlayDeviceDevice.write.Goals as goal

pub returns-then-is_err-clause-outside : goal.returns-then-is_err-clause-outside
returns-then-is_err-clause-outside g c =
    seen_outside c.self.inside.blocks c.keep.new.blocks (g.D.Device.content c.self.inside.inner) c.args.self.now.content c.args.sector c.args.bytes.now
    (ap (λ (d : Overlay _). d.content) c.self.view_is) c.requires.within c.requires.whole c.keep.ensures.outside

pub returns-clause-outside : goal.returns-clause-outside
returns-clause-outside g c =
    seen_outside c.self.inside.blocks c.keep.new.blocks (g.D.Device.content c.self.inside.inner) c.args.self.now.content c.args.sector c.args.bytes.now
    (ap (λ (d : Overlay _). d.content) c.self.view_is) c.requires.within c.requires.whole c.keep.ensures.outside
