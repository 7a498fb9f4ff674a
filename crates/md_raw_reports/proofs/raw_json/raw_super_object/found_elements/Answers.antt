use Rattle.std.proofs.Common.{◌≡◌, ◌∙◌, ℕ, ◌+◌, ◌++◌, ◌∷◌, [], false, List, ap, get_or, refl, sym, length, take, subst, arith, rules}
use Rattle.std.specs.List.{filter}
use Rattle.std.proofs.lemmas.List.{take_all, take_more}
use Rattle.std.proofs.lemmas.Option.{get_or_from_slice_get, slice_get_read}
use Rattle.md_raw_reports.specs.declared.super_fields.Found.{Found}
use Rattle.md_streams.specs.Sink.{Puts}
use Rattle.md_streams.proofs.Puts.{puts_then, puts_nothing}
use Rattle.md_report.specs.AsJson.Objects.{elements_text}
use Rattle.md_raw_reports.specs.RawJson.RawSuper.{found_object, is_found}
use Rattle.md_report.proofs.JsonLemmas.Chosen.{chosen_more, later_chosen}
use Rattle.md_report.proofs.JsonLemmas.Texts.{is_later}
use Rattle.md_raw_reports.proofs.raw_json.raw_super_object.found_elements.Goals as goal

pub loop-place-init : goal.loop-place-init
unfolding elements_text
loop-place-init g c = record { puts = puts_nothing g.S.Sink.contents g.S.Sink.failed c.args.out.now; later = refl }

pub loop-place-preserved : goal.loop-place-preserved
loop-place-preserved g c =
    let all = c.args.found.now in
    let i = c.loop-place.place-index in
    let P : List ℕ → Type 0 = λ t. Puts g.S.Sink.contents g.S.Sink.failed c.args.out.now c.found_where.new.out t in
    let own = c.in_ok-found_where.ensures in
    let own = rw (c.loop-place.invariant.later) at own in
    let it = c.place-item.result in
    let here : get_or all i it ≡ it = get_or_from_slice_get all i it it (slice_get_read all (length all) i it refl c.loop-place-test.true c.place-item.is) in
    let more : take (i + 1) all ≡ take i all ++ it ∷ [] = take_more all i it c.loop-place-test.true ∙ ap (λ (f : Found). take i all ++ f ∷ []) here in
    record {
      puts = subst P (chosen_more found_object is_found (take i all) it c.is_found-is_there.result c.is_found-is_there.ensures ∙ ap (λ (ys : List _). elements_text found_object false (filter is_found ys)) (sym more)) (puts_then g.S.Sink.contents g.S.Sink.failed c.loop-place.invariant.puts own);
      later = c.stands_before-later.ensures ∙ later_chosen found_object is_found (take i all) it c.loop-place.later c.is_found-is_there.result c.loop-place.invariant.later c.is_found-is_there.ensures ∙ ap (λ (ys : List _). is_later false (length (filter is_found ys))) (sym more);
    }

pub returns : goal.returns
returns g c =
    let P : List ℕ → Type 0 = λ t. Puts g.S.Sink.contents g.S.Sink.failed c.args.out.now c.loop-place.out t in
    subst P (ap (λ (ys : List _). elements_text found_object false (filter is_found ys)) (take_all c.loop-place.place-index c.args.found.now (search (rules, arith)))) c.loop-place.invariant.puts
