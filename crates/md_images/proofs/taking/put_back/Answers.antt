use Rattle.std.proofs.Common.{◌≡◌, ◌∙◌, ◌+◌, ◌<◌, [], ◌∷◌, length, ap, sym, arith}
use Rattle.std.proofs.lemmas.List.{length-append}
use Rattle.md_images.specs.Taking.{name_at}
use Rattle.md_images.proofs.Taken.{all_put, name_of_word, names_in, no_word, putting_more}
use Rattle.std.specs.Prelude.{slice_index_or}
use Rattle.md_images.proofs.taking.put_back.Goals as goal

pub put-requires : goal.put-requires
put-requires g c = λ is.
    let so = c.loop-device.invariant.0 in
    let first = sym so.known_kept ∙ is in
    let place : c.len.result ≡ length c.pop.new.self.items = c.len.ensures ∙ c.pop.new.self.ok.0 in
    let longer : length c.loop-device.devices.items ≡ length c.pop.new.self.items + 1 = ap length c.in-Some.ensures.items ∙ length-append c.pop.new.self.items (c.in-Some.device ∷ []) in
    let within : c.len.result < length c.args.devices.items = omega (arith, place, longer, so.shorter) in
    let inside : c.len.result < length c.args.words.now = omega (arith, within, c.requires.few) in
    ap (g.I.Images.holds c.loop-device.images) (sym (name_of_word c.args.words.now c.len.result inside)) ∙ so.places first (name_at (names_in c.args.words.now) c.len.result) ∙ c.requires.held first c.len.result within

pub loop-device-preserved : goal.loop-device-preserved
loop-device-preserved g c =
    let so = c.loop-device.invariant.0 in
    let place : c.len.result ≡ length c.pop.new.self.items = c.len.ensures ∙ c.pop.new.self.ok.0 in
    let longer : length c.loop-device.devices.items ≡ length c.pop.new.self.items + 1 = ap length c.in-Some.ensures.items ∙ length-append c.pop.new.self.items (c.in-Some.device ∷ []) in
    let inside : c.len.result < length c.args.words.now = omega (arith, place, longer, so.shorter, c.requires.few) in
    let more =
    putting_more g.I.Images.known g.I.Images.holds g.I.Images.device_at g.I.Images.changeable (names_in c.args.words.now) c.args.images.now c.loop-device.images c.put.new.self c.args.devices.items c.loop-device.devices.items c.pop.new.self.items c.in-Some.device
    (slice_index_or c.args.words.now c.len.result no_word).name.now so c.requires.distinct c.in-Some.ensures.items
    (ap (name_at (names_in c.args.words.now)) (sym place) ∙ name_of_word c.args.words.now c.len.result inside)
    (record { known_kept = c.put.ensures.known; places = c.put.ensures.places; rights = c.put.ensures.rights; others = c.put.ensures.others })
    c.put.ensures.back in
    (more, λ is n. c.put.ensures.asked (so.known_kept ∙ is) n ∙ c.loop-device.invariant.1 is n)

pub returns-clause-back : goal.returns-clause-back
returns-clause-back g c = λ is.
    all_put (g.I.Images.device_at c.args.images.now) (g.I.Images.device_at c.loop-device.images) (names_in c.args.words.now) c.args.devices.items c.loop-device.devices.items
    (sym c.loop-device.devices.ok.0 ∙ c.in_default.ensures.cases.0) (c.loop-device.invariant.0.down is)

pub returns-clause-asked : goal.returns-clause-asked
returns-clause-asked g c = c.loop-device.invariant.1
