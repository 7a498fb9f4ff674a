use Rattle.std.proofs.Common.{◌≡◌, ◌∙◌, ◌+◌, ◌++◌, ◌∷◌, [], ℕ, Bool, false, List, ap, get_or, refl, sym, length, take, subst, arith, rules}
use Rattle.std.specs.List.{filter}
use Rattle.std.proofs.lemmas.List.{take_all, take_more}
use Rattle.std.proofs.lemmas.Option.{get_or_from_slice_get, slice_get_read}
use Rattle.md_bitmap.specs.Marks.{is_set}
use Rattle.md_collect.specs.declared.found.Pair.{Pair}
use Rattle.md_streams.specs.Sink.{Puts}
use Rattle.md_streams.proofs.Puts.{puts_then, puts_nothing}
use Rattle.md_report.specs.AsJson.CheckObject.{pair_value, pairs_in}
use Rattle.md_report.specs.AsJson.Objects.{elements_text}
use Rattle.md_report.proofs.JsonLemmas.Chosen.{chosen_more, later_chosen}
use Rattle.md_report.proofs.JsonLemmas.Texts.{is_later}
use Rattle.md_report.proofs.as_json.check_object.pair_elements.Goals as goal

pub loop-pair-init : goal.loop-pair-init
unfolding elements_text
loop-pair-init g c = record { puts = puts_nothing g.S.Sink.contents g.S.Sink.failed c.args.out.now; later = refl }

pub loop-pair-preserved : goal.loop-pair-preserved
loop-pair-preserved g c =
    let all = c.args.pairs.now in
    let i = c.loop-pair.pair-index in
    let it = c.pair-item.result in
    let differs : Pair → Bool = λ pair. is_set pair.chunks.bytes c.args.c in
    let P : List ℕ → Type 0 = λ t. Puts g.S.Sink.contents g.S.Sink.failed c.args.out.now c.pair_where.new.out t in
    let own = c.in_ok-pair_where.ensures in
    let own = rw (c.loop-pair.invariant.later) at own in
    let here : get_or all i it ≡ it = get_or_from_slice_get all i it it (slice_get_read all (length all) i it refl c.loop-pair-test.true c.pair-item.is) in
    let more : take (i + 1) all ≡ take i all ++ it ∷ [] = take_more all i it c.loop-pair-test.true ∙ ap (λ (pair : Pair). take i all ++ pair ∷ []) here in
    record {
      puts = subst P (chosen_more pair_value differs (take i all) it c.is_marked-differs.result c.is_marked-differs.ensures ∙ ap (λ (ys : List Pair). elements_text pair_value false (filter differs ys)) (sym more)) (puts_then g.S.Sink.contents g.S.Sink.failed c.loop-pair.invariant.puts own);
      later = c.stands_before-later.ensures ∙ later_chosen pair_value differs (take i all) it c.loop-pair.later c.is_marked-differs.result c.loop-pair.invariant.later c.is_marked-differs.ensures ∙ ap (λ (ys : List Pair). is_later false (length (filter differs ys))) (sym more);
    }

pub returns : goal.returns
returns g c =
    let P : List ℕ → Type 0 = λ t. Puts g.S.Sink.contents g.S.Sink.failed c.args.out.now c.loop-pair.out t in
    subst P (ap (λ (ys : List Pair). elements_text pair_value false (pairs_in c.args.c ys)) (take_all c.loop-pair.pair-index c.args.pairs.now (search (rules, arith)))) c.loop-pair.invariant.puts
