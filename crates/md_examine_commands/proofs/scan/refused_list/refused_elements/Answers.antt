use Rattle.std.proofs.Common.{◌∙◌, ℕ, false, List, ap, refl, sym, length, take, subst, arith, rules}
use Rattle.std.specs.List.{filter}
use Rattle.std.proofs.lemmas.List.{take_all, take_more}
use Rattle.md_streams.specs.Sink.{Puts}
use Rattle.md_streams.proofs.Puts.{puts_then, puts_nothing}
use Rattle.md_report.specs.AsJson.Objects.{elements_text}
use Rattle.md_examine_commands.specs.Unshown.{is_told_why, unshown_object}
use Rattle.md_report.proofs.JsonLemmas.Chosen.{chosen_more, later_chosen}
use Rattle.md_report.proofs.JsonLemmas.Texts.{is_later}
use Rattle.md_examine_commands.proofs.scan.refused_list.refused_elements.Goals as goal

pub loop-refused-init : goal.loop-refused-init
unfolding elements_text
loop-refused-init g c = record { puts = puts_nothing g.S.Sink.contents g.S.Sink.failed c.args.out.now; later = refl }

pub loop-refused-preserved : goal.loop-refused-preserved
loop-refused-preserved g c =
    let named = c.args.is_named in
    let all = c.args.all.now in
    let i = c.loop-refused.refused-index in
    let P : List ℕ → Type 0 = λ t. Puts g.S.Sink.contents g.S.Sink.failed c.args.out.now c.refused_where.new.out t in
    let own = c.in_ok-refused_where.ensures in
    let own = rw (c.loop-refused.invariant.later) at own in
    record {
      puts = subst P (chosen_more unshown_object (is_told_why named) (take i all) _ c.is_told_why-is_there.result c.is_told_why-is_there.ensures ∙ ap (λ (ys : List _). elements_text unshown_object false (filter (is_told_why named) ys)) (sym (take_more all i _ c.loop-refused-test.true))) (puts_then g.S.Sink.contents g.S.Sink.failed c.loop-refused.invariant.puts own);
      later = c.stands_before-later.ensures ∙ later_chosen unshown_object (is_told_why named) (take i all) _ c.loop-refused.later c.is_told_why-is_there.result c.loop-refused.invariant.later c.is_told_why-is_there.ensures ∙ ap (λ (ys : List _). is_later false (length (filter (is_told_why named) ys))) (sym (take_more all i _ c.loop-refused-test.true));
    }

pub returns : goal.returns
returns g c =
    let P : List ℕ → Type 0 = λ t. Puts g.S.Sink.contents g.S.Sink.failed c.args.out.now c.loop-refused.out t in
    subst P (ap (λ (ys : List _). elements_text unshown_object false (filter (is_told_why c.args.is_named) ys)) (take_all c.loop-refused.refused-index c.args.all.now (search (rules, arith)))) c.loop-refused.invariant.puts
