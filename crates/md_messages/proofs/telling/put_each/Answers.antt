use Rattle.std.proofs.Common.{◌≡◌, ◌∙◌, ◌<◌, ◌+◌, ℕ, [], true, false, length, get_or, ap, refl, subst, sym, arith}
use Rattle.std.specs.List.{flat_map, range_with_len}
use Rattle.std.proofs.lemmas.List.{length-map}
use Rattle.md_streams.specs.Sink.{Puts}
use Rattle.md_streams.proofs.Puts.{puts_nothing}
use Rattle.md_images.specs.Taking.{is_missing_word}
use Rattle.md_images.proofs.Listed.{text_at}
use Rattle.md_messages.specs.Telling.{each_at, texts}
use Rattle.md_messages.proofs.Each.{image_told, missing_told, place_kept, place_next}
use Rattle.md_messages.proofs.telling.put_each.Goals as goal

pub loop-place-init : goal.loop-place-init
loop-place-init g c = record { told = puts_nothing g.S.Sink.contents g.S.Sink.failed c.args.out.now; next = refl; few = omega arith }

pub loop-place-preserved-then-is_missing : goal.loop-place-preserved-then-is_missing
loop-place-preserved-then-is_missing g c =
    let names = texts c.args.names.now in
    let k = c.loop-place.place in
    let so = c.loop-place.invariant in
    let inside : k < length names = subst (λ (n : ℕ). k < n) (sym (length-map c.args.names.now (λ s. s.now))) c.loop-place-test.true in
    let is : is_missing_word true (get_or names k []) ≡ true = ap (is_missing_word true) (text_at c.args.names.now k c.loop-place-test.true) ∙ sym c.is_missing.ensures ∙ c.if-is_missing.true in
    record {
      told = missing_told g.S.Sink.contents g.S.Sink.failed c.args.each.now names k is so.told;
      next = so.next ∙ sym (place_kept names k inside is);
      few = omega (arith, so.few);
    }

pub loop-place-preserved : goal.loop-place-preserved
loop-place-preserved g c =
    let names = texts c.args.names.now in
    let k = c.loop-place.place in
    let so = c.loop-place.invariant in
    let inside : k < length names = subst (λ (n : ℕ). k < n) (sym (length-map c.args.names.now (λ s. s.now))) c.loop-place-test.true in
    let named = text_at c.args.names.now k c.loop-place-test.true in
    let is : is_missing_word true (get_or names k []) ≡ false = ap (is_missing_word true) named ∙ sym c.is_missing.ensures ∙ c.if-is_missing.false in
    record {
      told = image_told g.S.Sink.contents g.S.Sink.failed c.args.each.now names k c.loop-place.next _ is so.next (sym named) so.told c.in_ok-put_held_at.ensures;
      next = ap (λ (n : ℕ). n + 1) so.next ∙ sym (place_next names k inside is);
      few = omega (arith, so.few);
    }

pub returns : goal.returns
returns g c =
    let names = texts c.args.names.now in
    let all : c.loop-place.place ≡ length names = omega (arith, c.loop-place-test.false, length-map c.args.names.now (λ s. s.now)) in
    let P : ℕ → Type 0 = λ n. Puts g.S.Sink.contents g.S.Sink.failed c.args.out.now c.loop-place.out (flat_map (each_at c.args.each.now names) (range_with_len 0 n)) in
    subst P all c.loop-place.invariant.told
