use Rattle.std.proofs.Common.{◌∙◌, ℕ, false, List, ap, refl, sym, length, subst}
use Rattle.std.specs.List.{filter, range_with_len}
use Rattle.md_bitmap.proofs.Numbers.{range_more}
use Rattle.md_streams.specs.Sink.{Puts}
use Rattle.md_streams.proofs.Puts.{puts_then, puts_nothing}
use Rattle.md_report.specs.AsJson.WholeArray.StandingLists.{is_missing_role}
use Rattle.md_report.specs.AsJson.Objects.{elements_text, whole}
use Rattle.md_report.proofs.JsonLemmas.Chosen.{chosen_more, later_chosen}
use Rattle.md_report.proofs.JsonLemmas.Texts.{is_later}
use Rattle.md_report.proofs.as_json.whole_array.standing_lists.missing_elements.Goals as goal

pub loop-role-init : goal.loop-role-init
unfolding elements_text
loop-role-init g c = record { puts = puts_nothing g.S.Sink.contents g.S.Sink.failed c.args.out.now; later = refl }

pub loop-role-preserved : goal.loop-role-preserved
loop-role-preserved g c =
    let k = c.loop-role.role in
    let chosen = is_missing_role c.args.mirror.now.array.members in
    let P : List ℕ → Type 0 = λ t. Puts g.S.Sink.contents g.S.Sink.failed c.args.out.now c.chosen_number.new.out t in
    let own = c.in_ok-chosen_number.ensures in
    let own = rw (c.loop-role.invariant.later) at own in
    let more = range_more k in
    record {
      puts = subst P (chosen_more whole chosen (range_with_len 0 k) k c.is_missing_role-missing.result c.is_missing_role-missing.ensures ∙ ap (λ (ys : List ℕ). elements_text whole false (filter chosen ys)) (sym more)) (puts_then g.S.Sink.contents g.S.Sink.failed c.loop-role.invariant.puts own);
      later = c.stands_before-later.ensures ∙ later_chosen whole chosen (range_with_len 0 k) k c.loop-role.later c.is_missing_role-missing.result c.loop-role.invariant.later c.is_missing_role-missing.ensures ∙ ap (λ (ys : List ℕ). is_later false (length (filter chosen ys))) (sym more);
    }
