use Rattle.std.proofs.Common.{length, ap, sym, ◌∙◌}
use Rattle.md_notices.specs.Signatures.Bearing.{bears_signature, has_superblock, md_10_place, md_090_place}
use Rattle.md_notices.proofs.SignatureLemmas.Bears.{told_by_magics}
use Rattle.md_notices.proofs.SignatureLemmas.Devices.{tells_as}
use Rattle.md_notices.proofs.SignatureLemmas.Signs.{whole_sectors}
use Rattle.md_notices.proofs.signatures.bearing.bears.Goals as goal

pub returns-in-Md090-clause-tells : goal.returns-in-Md090-clause-tells
unfolding bears_signature
returns-in-Md090-clause-tells g c =
    let content = g.D.Device.content c.args.device.now in
    let sectors = whole_sectors (length content) c.sectors.result c.sectors.ensures.size in
    tells_as
    (ap (has_superblock content) (c.md_090_place-place.ensures.place ∙ ap md_090_place (sym sectors)) ∙ ap (bears_signature content) (sym c.in-Md090.is))
    c.look_for_superblock.ensures.tells

pub returns-in-Md10-clause-tells : goal.returns-in-Md10-clause-tells
unfolding bears_signature
returns-in-Md10-clause-tells g c =
    let content = g.D.Device.content c.args.device.now in
    let sectors = whole_sectors (length content) c.sectors-in-Md10.result c.sectors-in-Md10.ensures.size in
    tells_as
    (ap (has_superblock content) (c.md_10_place-place.ensures.place ∙ ap md_10_place (sym sectors)) ∙ ap (bears_signature content) (sym c.in-Md10.is))
    c.look_for_superblock-in-Md10.ensures.tells

pub returns-in_default : goal.returns-in_default
returns-in_default g c = record {
  only_read = c.look_for_any.ensures.only_read;
  heeds = c.look_for_any.ensures.heeds;
  tells = tells_as (told_by_magics (g.D.Device.content c.args.device.now) c.args.signature c.in_default.not-Md090 c.in_default.not-Md10 c.in_default.not-Mbr c.magics.result.now c.magics.ensures.table) c.look_for_any.ensures.tells;
}
