use Rattle.std.proofs.Common.{◌<◌, ◌≤◌, ◌∙◌, [], arith, length, ap, sym}
use Rattle.std.specs.List.{list_any}
use Rattle.std.proofs.lemmas.List.{take_all}
use Rattle.md_notices.specs.declared.signatures.magic.Magic.{Magic}
use Rattle.md_notices.specs.Signatures.Magics.{has_sign, is_in_one_sector, sign_of}
use Rattle.md_notices.proofs.SignatureLemmas.Anys.{any_there, none_more}
use Rattle.md_notices.proofs.SignatureLemmas.Devices.{heeds_then, read_then, tells_none}
use Rattle.md_notices.proofs.SignatureLemmas.Lists.{at_all}
use Rattle.md_notices.proofs.signatures.magic.look_for_any.Goals as goal

abbrev no_magic : Magic
no_magic = record { place = 0; bytes = record { ref_ptr = (0, 0); now = [] } }

pub loop-magic-preserved : goal.loop-magic-preserved
loop-magic-preserved g c =
    let inv = c.loop-magic.invariant in
    let i = c.loop-magic.magic-index in
    let inside : i < length c.args.magics.now = omega arith in
    record {
      only_read = read_then inv.only_read c.look_for_magic.ensures.only_read;
      heeds = heeds_then inv.only_read c.look_for_magic.ensures.only_read inv.heeds c.look_for_magic.ensures.heeds;
      none = none_more c.args.magics.now i no_magic c.look_for_magic.result inside inv.only_read c.look_for_magic.ensures.only_read c.look_for_magic.ensures.tells c.if-look_for_magic.false inv.none;
    }

pub look_for_magic-requires : goal.look_for_magic-requires
look_for_magic-requires g c =
    let inside : c.loop-magic.magic-index < length c.args.magics.now = omega arith in
    at_all (λ (m : Magic). is_in_one_sector (sign_of m)) c.args.magics.now c.loop-magic.magic-index no_magic inside c.requires

pub returns-then-look_for_magic : goal.returns-then-look_for_magic
returns-then-look_for_magic g c =
    let inv = c.loop-magic.invariant in
    let inside : c.loop-magic.magic-index < length c.args.magics.now = omega arith in
    record {
      only_read = read_then inv.only_read c.look_for_magic.ensures.only_read;
      heeds = heeds_then inv.only_read c.look_for_magic.ensures.only_read inv.heeds c.look_for_magic.ensures.heeds;
      tells = any_there c.args.magics.now c.loop-magic.magic-index no_magic c.look_for_magic.result inside inv.only_read c.look_for_magic.ensures.tells c.if-look_for_magic.true;
    }

pub returns : goal.returns
returns g c =
    let inv = c.loop-magic.invariant in
    let ended : length c.args.magics.now ≤ c.loop-magic.magic-index = omega arith in
    record {
      only_read = inv.only_read;
      heeds = inv.heeds;
      tells = tells_none _ _ _ (λ h same. ap (list_any (λ (m : Magic). has_sign (g.D.Device.content c.args.device.now) (sign_of m))) (sym (take_all c.loop-magic.magic-index c.args.magics.now ended)) ∙ inv.none h same);
    }
