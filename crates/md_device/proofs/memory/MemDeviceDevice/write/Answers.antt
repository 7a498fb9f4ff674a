use Rattle.std.proofs.Common.{◌*◌, length, ap, refl, arith}
use Rattle.md_device.proofs.Splices.{spliced_outside}
use Rattle.md_device.proofs.memory.MemDeviceDevice.write.Goals as goal

pub returns-clause-outside : goal.returns-clause-outside
returns-clause-outside c = rw (c.overwrite.ensures.items, ← c.self.view_is) (spliced_outside c.self.inside.bytes.items (512 * c.args.sector) c.args.bytes.now _ refl (omega (arith, ap length c.self.view_is)))
