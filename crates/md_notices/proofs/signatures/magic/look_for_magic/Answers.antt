use Rattle.std.proofs.Common.{◌/◌, ◌∙◌}
use Rattle.md_notices.specs.Signatures.Magics.{sign_of}
use Rattle.md_notices.proofs.SignatureLemmas.Devices.{missed, tells_same}
use Rattle.md_notices.proofs.SignatureLemmas.Signs.{in_its_sector, not_past}
use Rattle.md_notices.proofs.signatures.magic.look_for_magic.Goals as goal

pub returns-in-Some-clause-tells : goal.returns-in-Some-clause-tells
returns-in-Some-clause-tells g c =
    tells_same (λ h. c.has_bytes.ensures ∙ in_its_sector (g.D.Device.content c.args.device.now) c.in-Some.sector (sign_of c.args.magic.now) c.requires (c.in-Some.ensures.reads.given h))

pub returns-in-None-clause-tells : goal.returns-in-None-clause-tells
returns-in-None-clause-tells g c =
    missed (c.args.magic.now.place / 512) c.in-None.ensures.reads (not_past (g.D.Device.content c.args.device.now) (sign_of c.args.magic.now) c.requires)
