use Rattle.std.proofs.Common.{rules, ◌≡◌, ◌<◌, ◌∷◌, ◌++◌, ℕ, [], length, map, arith, inr, subst, sym}
use Rattle.std.specs.Prelude.{Err, slice_index_or}
use Rattle.std.proofs.lemmas.List.{length-map}
use Rattle.md_images.specs.Taking.{Text}
use Rattle.md_files.specs.Masks.Images.Copies.{AreMasked, RefusesMap}
use Rattle.md_files.specs.Masks.Images.Masks.{KeepsAll, mask_of, named_mask}
use Rattle.md_files.proofs.MaskLemmas.ImageLemmas.Masking.{keeps_same, keeps_then, lacked_at, masked_next, none_masked, refused_at}
use Rattle.md_files.proofs.MaskLemmas.ImageLemmas.Named.{no_word, text_at, texts}
use Rattle.md_files.proofs.masks.images.copies.mask_images.Goals as goal

pub loop-image-init : goal.loop-image-init
loop-image-init g c = record {
  masks = none_masked g.I.Images g.I.Dev.Device c.args.images c.args.maps.now (texts c.args.names.now) c.new-masked.result.masks c.new-masked.ensures.masks;
  images = subst (λ images. KeepsAll g.I.Images c.args.images images) (sym c.new-masked.ensures.images) (keeps_same g.I.Images c.args.images);
}

pub loop-image-preserved : goal.loop-image-preserved
loop-image-preserved g c =
    let inside : c.loop-image.image < length c.args.names.now = c.loop-image-test.true in
    let before = c.loop-image.invariant in
    let looked = c.lacking_at.ensures in
    let name = (slice_index_or c.args.names.now c.loop-image.image no_word).now in
    let missing = c.in_ok-missing.missing in
    let grows : c.add.new.self.masks ≡ c.loop-image.masked.masks ++ named_mask name (mask_of missing []) ∷ [] = search rules in
    let same : c.add.new.self.images ≡ c.lacking_at.new.masked.images = search rules in
    record {
      masks = masked_next g.I.Images g.I.Dev.Device c.args.images c.args.maps.now (texts c.args.names.now) c.loop-image.image c.loop-image.masked.masks c.add.new.self.masks name missing
          (text_at c.args.names.now c.loop-image.image inside) before.masks
          (lacked_at g.I.Images g.I.Dev.Device c.args.images c.loop-image.masked.images c.args.maps.now c.loop-image.image name missing before.images c.in_ok-missing.ensures.lacks)
          grows;
      images = subst (λ images. KeepsAll g.I.Images c.args.images images) (sym same) (keeps_then g.I.Images c.args.images c.loop-image.masked.images c.lacking_at.new.masked.images before.images looked.images);
    }

pub returns-clause-masks : goal.returns-clause-masks
returns-clause-masks g c =
    let many : c.loop-image.image ≡ length c.args.names.now = search (rules, arith) in
    subst (λ (n : ℕ). AreMasked g.I.Images g.I.Dev.Device c.args.images c.args.maps.now (map (λ s. s.now) c.args.names.now) n c.loop-image.masked.masks) many c.loop-image.invariant.masks

pub returns-in_err-missing-clause-refused : goal.returns-in_err-missing-clause-refused
returns-in_err-missing-clause-refused g c =
    let inside : c.loop-image.image < length c.args.names.now = c.loop-image-test.true in
    let fault = c.in_err-missing.field-0.0 in
    let is : c.from_residual-in_err-missing.result ≡ Err fault = search rules in
    let name = (slice_index_or c.args.names.now c.loop-image.image no_word).now in
    let refused = refused_at g.I.Images g.I.Dev.Device c.args.images c.loop-image.masked.images c.args.maps.now c.loop-image.image name fault c.loop-image.invariant.images c.in_err-missing.ensures.refused in
    rw is (inr (record {
      image = c.loop-image.image;
      within = subst (λ (n : ℕ). c.loop-image.image < n) (sym (length-map c.args.names.now (λ s. s.now))) inside;
      refused = subst (λ (t : Text). RefusesMap g.I.Images g.I.Dev.Device c.args.images c.args.maps.now c.loop-image.image t fault) (sym (text_at c.args.names.now c.loop-image.image inside)) refused;
    }))
