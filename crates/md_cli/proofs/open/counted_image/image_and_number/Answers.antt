use Rattle.std.proofs.Common.{◌≡◌, ◌∙◌, ap, ap₂, arith, map, option_map, sym}
use Rattle.std.specs.Option.{option_zip}
use Rattle.std.specs.Str.{bytes_eq}
use Rattle.md_images.proofs.MemPlaces.{position-map}
use Rattle.md_cli.specs.CountedImage.{image_and_number}
use Rattle.md_cli.proofs.LastSplit.{split_at_last}
use Rattle.md_cli.proofs.open.counted_image.image_and_number.Goals as goal

pub returns-in-Some : goal.returns-in-Some
returns-in-Some c =
    let images = map (λ s. s.now) c.args.images.now in
    let split = split_at_last 61 c.args.text.now _ c.rsplit_once.ensures.cases (omega arith) in
    c.zip.ensures
    ∙ ap₂ option_zip (c.position_of.ensures ∙ sym (position-map (λ image. bytes_eq image c.in-Some.name.now) (λ s. s.now) c.args.images.now)) c.number_of.ensures
    ∙ ap (image_and_number images) (ap (option_map (λ x. (x.0.now, x.1.now))) (sym c.in-Some.is) ∙ split)

pub returns-in-None : goal.returns-in-None
returns-in-None c =
    let images = map (λ s. s.now) c.args.images.now in
    let split = split_at_last 61 c.args.text.now _ c.rsplit_once.ensures.cases (omega arith) in
    ap (image_and_number images) (ap (option_map (λ x. (x.0.now, x.1.now))) (sym c.in-None.is) ∙ split)
