use Rattle.std.proofs.Common.{◌<◌, length}
use Rattle.std.specs.Prelude.{slice_index_or}
use Rattle.md_files.proofs.MaskLemmas.ImageLemmas.Named.{names_next, no_word, text_at, texts}
use Rattle.md_files.proofs.masks.images.words.map_word.Goals as goal

pub loop-image-preserved : goal.loop-image-preserved
loop-image-preserved c =
    let inside : c.loop-image.image < length c.args.names.now = c.loop-image-test.true in
    names_next (texts c.args.names.now) c.loop-image.image (slice_index_or c.args.names.now c.loop-image.image no_word).now c.args.word.now
    (text_at c.args.names.now c.loop-image.image inside) c.loop-image.invariant c.in_default.ensures
