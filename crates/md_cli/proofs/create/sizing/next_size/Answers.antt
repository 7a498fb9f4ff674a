use Rattle.std.proofs.Common.{length, refl}
use Rattle.std.proofs.lemmas.Option.{slice_get_read}
use Rattle.md_cli.proofs.Sizes.{size_at}
use Rattle.md_cli.proofs.create.sizing.next_size.Goals as goal

pub returns-in-Some : goal.returns-in-Some
returns-in-Some g c = size_at g.D.Device c.args.devices.now c.args.next c.in-Some.device.now c.sectors.result (slice_get_read c.args.devices.now (length c.args.devices.now) c.args.next c.in-Some.device.now refl c.in-Some.ensures.lookup.3.0 c.in-Some.ensures.lookup.1) c.sectors.ensures.size
