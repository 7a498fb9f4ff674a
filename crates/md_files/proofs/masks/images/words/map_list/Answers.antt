use Rattle.std.proofs.Common.{◌≡◌, ◌<◌, ◌∷◌, ◌++◌, [], false, length, rules}
use Rattle.std.specs.Prelude.{slice_index_or}
use Rattle.std.specs.List.{list_any}
use Rattle.md_files.proofs.MaskLemmas.ImageLemmas.Named.{is_of, maps_next, no_word, text_at, texts}
use Rattle.md_files.proofs.masks.images.words.map_list.Goals as goal

pub loop-place-preserved : goal.loop-place-preserved
loop-place-preserved c =
    let inside : c.loop-place.place < length c.args.words.now = c.loop-place-test.true in
    let fresh : list_any (is_of c.in-Some.found.image) c.loop-place.list.items ≡ false = search rules in
    let grows : c.push.new.self.items ≡ c.loop-place.list.items ++ c.in-Some.found ∷ [] = search rules in
    maps_next (texts c.args.names.now) (texts c.args.words.now) c.loop-place.place c.loop-place.list.items c.push.new.self.items c.in-Some.found
    (slice_index_or c.args.words.now c.loop-place.place no_word).now (text_at c.args.words.now c.loop-place.place inside) c.loop-place.invariant c.in-Some.ensures fresh grows
