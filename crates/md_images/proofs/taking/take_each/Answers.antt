use Rattle.std.proofs.Common.{◌≡◌, ◌<◌, ◌∙◌, ◌+◌, ℕ, [], ◌∷◌, ◌++◌, length, ap, sym, subst, arith, vec_capacity, vec_len, IsOk}
use Rattle.std.specs.Prelude.{slice_index_or}
use Rattle.md_images.specs.declared.image_refusal.ImageRefusal.TheVariants.{Unopened}
use Rattle.md_images.specs.Images.{allows}
use Rattle.md_images.specs.Taking.{IsNameRefused, Repeats}
use Rattle.md_images.proofs.Taken.{Taking, all_taken, name_of_word, names_in, no_word, pushed, refused_bad, repeated_bad, taking_more, taking_refused}
use Rattle.md_images.proofs.taking.take_each.Goals as goal

pub loop-place-preserved : goal.loop-place-preserved
loop-place-preserved g c =
    let so = c.loop-place.invariant in
    let room : vec_len c.loop-place.devices < vec_capacity c.loop-place.devices = omega (arith, so.1, so.2, c.loop-place-test.true) in
    let fits : IsOk c.push.result = c.push.ensures.succeeds room in
    let items = pushed c.push.result (c.loop-place.devices.items ++ c.in-Ok.device ∷ []) c.loop-place.devices.items c.push.new.self.items fits c.push.ensures.items in
    let long : vec_len c.push.new.self ≡ vec_len c.loop-place.devices + 1 = pushed c.push.result (vec_len c.loop-place.devices + 1) (vec_len c.loop-place.devices) (vec_len c.push.new.self) fits c.push.ensures.len in
    let more =
    taking_more g.I.Images.known g.I.Images.holds g.I.Images.device_at (λ images n. allows c.args.access (g.I.Images.changeable images n)) c.args.words.now c.args.images.now c.loop-place.images c.get.new.self c.loop-place.place c.loop-place.devices.items
    (slice_index_or c.args.words.now c.loop-place.place no_word).name.now c.loop-place-test.true (name_of_word c.args.words.now c.loop-place.place c.loop-place-test.true) so.0
    (record { known_kept = c.get.ensures.known; places = c.get.ensures.places; rights = λ is n. ap (allows c.args.access) (c.get.ensures.rights is n); others = c.get.ensures.others })
    c.in-Ok.device (sym c.is_among.ensures ∙ c.if-is_among.false) c.in-Ok.ensures.gives c.in-Ok.ensures.allowed c.in-Ok.ensures.gone in (
      subst (λ ds. Taking g.I.Images.known g.I.Images.holds g.I.Images.device_at (λ images n. allows c.args.access (g.I.Images.changeable images n)) (names_in c.args.words.now) c.args.images.now c.get.new.self (c.loop-place.place + 1) ds) (sym items) more,
      omega (arith, long, so.1),
      omega (arith, so.2, c.push.ensures.capacity),
      λ is look n. c.get.ensures.looks (so.0.known_kept ∙ is) look n ∙ so.3 is look n,
    )

pub returns-then-is_among-clause-stopped : goal.returns-then-is_among-clause-stopped
returns-then-is_among-clause-stopped g c =
    let many = c.loop-place.invariant.0.took.many in (
      subst (λ (n : ℕ). n < length c.args.words.now) (sym many) c.loop-place-test.true,
      subst (λ (n : ℕ). Repeats (names_in c.args.words.now) n) (sym many)
          (repeated_bad c.args.words.now c.loop-place.place (slice_index_or c.args.words.now c.loop-place.place no_word).name.now (name_of_word c.args.words.now c.loop-place.place c.loop-place-test.true) (sym c.is_among.ensures ∙ c.if-is_among.true)),
    )

pub returns-in-Err-clause-took : goal.returns-in-Err-clause-took
returns-in-Err-clause-took g c =
    (all_taken g.I.Images.known g.I.Images.holds g.I.Images.device_at (λ images n. allows c.args.access (g.I.Images.changeable images n)) (names_in c.args.words.now) c.args.images.now c.get.new.self c.loop-place.place c.loop-place.devices.items
    (taking_refused g.I.Images.known g.I.Images.holds g.I.Images.device_at (λ images n. allows c.args.access (g.I.Images.changeable images n)) c.args.words.now c.args.images.now c.loop-place.images c.get.new.self c.loop-place.place c.loop-place.devices.items
    (slice_index_or c.args.words.now c.loop-place.place no_word).name.now c.loop-place-test.true (name_of_word c.args.words.now c.loop-place.place c.loop-place-test.true) c.loop-place.invariant.0
    (record { known_kept = c.get.ensures.known; places = c.get.ensures.places; rights = λ is n. ap (allows c.args.access) (c.get.ensures.rights is n); others = c.get.ensures.others })
    (sym c.is_among.ensures ∙ c.if-is_among.false) c.in-Err.ensures.gone)).took

pub returns-in-Err-clause-stopped : goal.returns-in-Err-clause-stopped
returns-in-Err-clause-stopped g c =
    let many = c.loop-place.invariant.0.took.many in (
      subst (λ (n : ℕ). n < length c.args.words.now) (sym many) c.loop-place-test.true,
      subst (λ (n : ℕ). IsNameRefused (g.I.Images.known c.args.images.now) (λ name. allows c.args.access (g.I.Images.changeable c.args.images.now name)) (g.I.Images.device_at c.args.images.now) (names_in c.args.words.now) n (Unopened c.in-Err.fault)) (sym many)
          (refused_bad g.I.Images.known g.I.Images.holds g.I.Images.device_at (λ images n. allows c.args.access (g.I.Images.changeable images n)) c.args.words.now c.args.images.now c.loop-place.images c.get.new.self c.loop-place.place c.loop-place.devices.items
          (slice_index_or c.args.words.now c.loop-place.place no_word).name.now c.loop-place-test.true (name_of_word c.args.words.now c.loop-place.place c.loop-place-test.true) c.loop-place.invariant.0
          (record { known_kept = c.get.ensures.known; places = c.get.ensures.places; rights = λ is n. ap (allows c.args.access) (c.get.ensures.rights is n); others = c.get.ensures.others })
          c.in-Err.fault (sym c.is_among.ensures ∙ c.if-is_among.false) c.in-Err.ensures.gives),
    )

pub returns-in-Err-clause-looks : goal.returns-in-Err-clause-looks
returns-in-Err-clause-looks g c =
    let so = c.loop-place.invariant in
    λ is look n. c.get.ensures.looks (so.0.known_kept ∙ is) look n ∙ so.3 is look n

pub returns-then-is_among-clause-looks : goal.returns-then-is_among-clause-looks
returns-then-is_among-clause-looks g c = c.loop-place.invariant.3

pub returns-clause-looks : goal.returns-clause-looks
returns-clause-looks g c = c.loop-place.invariant.3
