use Rattle.std.proofs.Common.{◌∙◌, [], ◌∷◌, map, ap, sym}
use Rattle.std.proofs.lemmas.List.{map-append}
use Rattle.md_images.specs.Taking.{may_miss, word_of}
use Rattle.md_images.proofs.Listed.{left_out, put_in}
use Rattle.md_images.proofs.image_word.image_list.Goals as goal

pub loop-index-preserved-then-names_none : goal.loop-index-preserved-then-names_none
loop-index-preserved-then-names_none c =
    left_out (may_miss c.args.missing) c.args.words.now c.loop-index.index c.loop-index-test.true (map word_of c.loop-index.list.items) (sym c.names_none.ensures ∙ c.if-names_none.true) c.loop-index.invariant

pub loop-index-preserved : goal.loop-index-preserved
loop-index-preserved c =
    ap (map word_of) c.in_ok-push.ensures.items ∙ map-append word_of c.loop-index.list.items (_ ∷ [])
    ∙ put_in (may_miss c.args.missing) c.args.words.now c.loop-index.index c.loop-index-test.true (map word_of c.loop-index.list.items) (sym c.names_none.ensures ∙ c.if-names_none.false) c.loop-index.invariant
