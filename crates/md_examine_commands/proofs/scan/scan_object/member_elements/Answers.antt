use Rattle.std.proofs.Common.{◌≡◌, ◌∙◌, ℕ, ◌+◌, ◌++◌, ◌∷◌, [], false, List, ap, get_or, refl, sym, length, take, subst, arith, rules}
use Rattle.std.specs.List.{filter}
use Rattle.std.proofs.lemmas.List.{take_all, take_more}
use Rattle.std.proofs.lemmas.Option.{get_or_from_slice_get, slice_get_read}
use Rattle.md_examine_commands.specs.declared.scan.seen.Seen.{Seen}
use Rattle.md_streams.specs.Sink.{Puts}
use Rattle.md_streams.proofs.Puts.{puts_then, puts_nothing}
use Rattle.md_report.specs.AsJson.Objects.{elements_text}
use Rattle.md_examine_commands.specs.ScanObject.{scan_member_object}
use Rattle.md_examine_commands.specs.ScanText.{is_same_array}
use Rattle.md_report.proofs.JsonLemmas.Chosen.{chosen_more, later_chosen}
use Rattle.md_report.proofs.JsonLemmas.Texts.{is_later}
use Rattle.md_examine_commands.proofs.scan.scan_object.member_elements.Goals as goal

pub loop-seen-init : goal.loop-seen-init
unfolding elements_text
loop-seen-init g c = record { puts = puts_nothing g.S.Sink.contents g.S.Sink.failed c.args.out.now; later = refl }

pub loop-seen-preserved : goal.loop-seen-preserved
loop-seen-preserved g c =
    let v = c.args.v.now in
    let all = c.args.all.now in
    let i = c.loop-seen.seen-index in
    let P : List ℕ → Type 0 = λ t. Puts g.S.Sink.contents g.S.Sink.failed c.args.out.now c.member_where.new.out t in
    let own = c.in_ok-member_where.ensures in
    let own = rw (c.loop-seen.invariant.later) at own in
    let it = c.seen-item.result in
    let here : get_or all i it ≡ it = get_or_from_slice_get all i it it (slice_get_read all (length all) i it refl c.loop-seen-test.true c.seen-item.is) in
    let more : take (i + 1) all ≡ take i all ++ it ∷ [] = take_more all i it c.loop-seen-test.true ∙ ap (λ (s : Seen). take i all ++ s ∷ []) here in
    record {
      puts = subst P (chosen_more (scan_member_object v) (is_same_array v) (take i all) it c.is_same_array-is_there.result c.is_same_array-is_there.ensures ∙ ap (λ (ys : List _). elements_text (scan_member_object v) false (filter (is_same_array v) ys)) (sym more)) (puts_then g.S.Sink.contents g.S.Sink.failed c.loop-seen.invariant.puts own);
      later = c.stands_before-later.ensures ∙ later_chosen (scan_member_object v) (is_same_array v) (take i all) it c.loop-seen.later c.is_same_array-is_there.result c.loop-seen.invariant.later c.is_same_array-is_there.ensures ∙ ap (λ (ys : List _). is_later false (length (filter (is_same_array v) ys))) (sym more);
    }

pub returns : goal.returns
returns g c =
    let P : List ℕ → Type 0 = λ t. Puts g.S.Sink.contents g.S.Sink.failed c.args.out.now c.loop-seen.out t in
    subst P (ap (λ (ys : List _). elements_text (scan_member_object c.args.v.now) false (filter (is_same_array c.args.v.now) ys)) (take_all c.loop-seen.seen-index c.args.all.now (search (rules, arith)))) c.loop-seen.invariant.puts
