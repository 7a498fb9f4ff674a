use Rattle.std.proofs.Common.{◌≡◌, ◌∙◌, ◌<◌, ℕ, length, ap, sym, subst}
use Rattle.std.specs.Prelude.{slice_index_or}
use Rattle.std.proofs.lemmas.List.{length-map}
use Rattle.md_images.specs.Taking.{word_of}
use Rattle.md_images.proofs.Taken.{index_of_word, names_in, no_word, restored}
use Rattle.md_images.proofs.taking.take_images.Goals as goal

pub returns-in-Err-clause-gives : goal.returns-in-Err-clause-gives
returns-in-Err-clause-gives g c =
    let at = g.I.Images.device_at in
    let devices = c.take_each.new.devices.items in
    let place : c.len-place.result ≡ length devices = c.len-place.ensures ∙ c.take_each.new.devices.ok.0 in
    let stopped = c.in-Err.ensures.stopped in
    let took = c.in-Err.ensures.took in (
      record {
        place = length devices;
        within = subst (λ (n : ℕ). length devices < n) (sym (length-map c.args.words.now word_of)) stopped.0;
        index_is = index_of_word c.args.words.now (length devices) stopped.0 ∙ ap (λ (n : ℕ). (slice_index_or c.args.words.now n no_word).index) (sym place);
        bad = stopped.1;
        distinct = took.distinct;
        earlier = took.there;
      },
      λ is name. restored (at c.args.images.now) (at c.take_each.new.images) (at c.put_back.new.images) (names_in c.args.words.now) (length devices) devices (took.taken is) (c.put_back.ensures.back (c.take_each.ensures.known ∙ is)) name,
    )

pub returns-in-Err-clause-looks : goal.returns-in-Err-clause-looks
returns-in-Err-clause-looks g c = λ is look n. c.put_back.ensures.asked (c.take_each.ensures.known ∙ is) n ∙ c.take_each.ensures.looks is look n
