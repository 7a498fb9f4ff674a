use Rattle.std.proofs.Common.{◌≡◌, ◌∙◌, Err, inl, inr, refl, rules, sym}
use Rattle.md_refusals.proofs.Wrapped.{own_ok}
use Rattle.md_examine_commands.proofs.ImagesLooked.{refuses_to_look}
use Rattle.md_examine_commands.proofs.scan.each_image.look_at.Goals as goal

pub put-requires : goal.put-requires
put-requires g c = λ k.
    let known = sym c.get.ensures.known ∙ k in
    let given = own_ok _ _ _ c.get.result _ _ (c.get.ensures.gives known) c.in_ok-device.ensures.cases c.in_ok-device.ensures.variant refl in
    c.get.ensures.places known c.args.name.now ∙ given.0

pub returns-in_err-device-clause-looks : goal.returns-in_err-device-clause-looks
returns-in_err-device-clause-looks g c =
    let is : c.from_residual.result ≡ Err c.in_err-device.field-0.0 = search rules in
    inr (refuses_to_look g.I.Images g.I.Dev.Device c.args.name.now c.args.images.now c.get.new.self _ c.get.result _ c.in_err-device.field-0.0 c.from_residual.result refl is c.in_err-device.ensures.cases c.get.ensures.gives c.get.ensures.gone c.get.ensures.others)

pub returns-in_err-device-clause-asked : goal.returns-in_err-device-clause-asked
returns-in_err-device-clause-asked g c = λ k n. c.get.ensures.looks k refl n

pub returns-clause-looks : goal.returns-clause-looks
returns-clause-looks g c = inl (record {
  taken = c.in_ok-device.device;
  given = c.read_shown-shown.new.device;
  was = λ k. (own_ok _ _ _ c.get.result _ _ (c.get.ensures.gives k) c.in_ok-device.ensures.cases c.in_ok-device.ensures.variant refl).1;
  back = λ k. c.put.ensures.back (c.get.ensures.known ∙ k);
  others = λ k other h. c.put.ensures.others (c.get.ensures.known ∙ k) other h ∙ c.get.ensures.others k other h;
  kept = c.read_shown-shown.ensures.kept;
  stays_honest = c.read_shown-shown.ensures.honest;
  grown = c.read_shown-shown.ensures.grown;
  gives = c.read_shown-shown.ensures.gives;
})

pub returns-clause-asked : goal.returns-clause-asked
returns-clause-asked g c = λ k n. c.put.ensures.asked (c.get.ensures.known ∙ k) n ∙ c.get.ensures.looks k refl n
