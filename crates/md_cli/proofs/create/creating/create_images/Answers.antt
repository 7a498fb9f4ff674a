use Rattle.std.proofs.Common.{◌≡◌, ◌∙◌, true, List, Err, map, ap, subst, inr, refl, rules}
use Rattle.md_images.specs.declared.access.Access.TheVariants.{Change}
use Rattle.md_refusals.specs.Faults.{of_images}
use Rattle.md_images.specs.Taking.{RefusesImages, Word, image_list, word_of}
use Rattle.md_messages.specs.Telling.{texts}
use Rattle.md_cli.specs.Arrays.{may}
use Rattle.md_cli.proofs.create.creating.create_images.Goals as goal

pub returns-in_err-devices-clause-gives : goal.returns-in_err-devices-clause-gives
returns-in_err-devices-clause-gives g c =
    let fault = c.in_err-devices.field-0.0 in
    let is : c.from_residual.result ≡ Err (of_images fault) = search rules in
    let words_are : map word_of c.as_slice-words.result.now ≡ image_list true (texts c.args.names.now) = ap (map word_of) c.as_slice-words.ensures.value ∙ c.in-Ok.ensures in
    let i = g.I.Images in
    inr (record {
      fault = fault;
      is = is;
      refused =
          subst (λ (words : List Word). RefusesImages (c.take_images.new.images ≡ c.args.images.now) (i.known c.args.images.now) (may i Change c.args.images.now) (i.device_at c.args.images.now) (i.device_at c.take_images.new.images) words fault)
          words_are c.in_err-devices.ensures.gives;
      unwritten = refl;
    })
