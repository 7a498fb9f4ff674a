use Rattle.std.proofs.Common.{◌≡◌, ◌∙◌, ℕ, false, List, ap, refl, sym, length, subst}
use Rattle.std.specs.List.{filter, range_with_len}
use Rattle.md_bitmap.proofs.Numbers.{range_more}
use Rattle.md_streams.specs.Sink.{Puts}
use Rattle.md_streams.proofs.Puts.{puts_then, puts_nothing}
use Rattle.md_report.specs.AsJson.CheckObject.{is_compared, is_state_in_sync}
use Rattle.md_report.specs.AsJson.Objects.{elements_text, whole}
use Rattle.md_report.proofs.JsonLemmas.Chosen.{chosen_more, later_chosen}
use Rattle.md_report.proofs.JsonLemmas.Texts.{is_later}
use Rattle.md_report.proofs.as_json.check_object.compared_elements.Goals as goal

pub loop-k-init : goal.loop-k-init
unfolding elements_text
loop-k-init g c = record { puts = puts_nothing g.S.Sink.contents g.S.Sink.failed c.args.out.now; later = refl }

pub loop-k-preserved : goal.loop-k-preserved
loop-k-preserved g c =
    let k = c.loop-k.k in
    let compared = is_compared c.args.mirror.now.array.members in
    let P : List ℕ → Type 0 = λ t. Puts g.S.Sink.contents g.S.Sink.failed c.args.out.now c.chosen_number.new.out t in
    let own = c.in_ok-chosen_number.ensures in
    let own = rw (c.loop-k.invariant.later) at own in
    let here : c.is_in_sync-compared.result ≡ compared k = c.is_in_sync-compared.ensures ∙ sym (ap is_state_in_sync c.state.ensures) in
    let more = range_more k in
    record {
      puts = subst P (chosen_more whole compared (range_with_len 0 k) k c.is_in_sync-compared.result here ∙ ap (λ (ys : List ℕ). elements_text whole false (filter compared ys)) (sym more)) (puts_then g.S.Sink.contents g.S.Sink.failed c.loop-k.invariant.puts own);
      later = c.stands_before-later.ensures ∙ later_chosen whole compared (range_with_len 0 k) k c.loop-k.later c.is_in_sync-compared.result c.loop-k.invariant.later here ∙ ap (λ (ys : List ℕ). is_later false (length (filter compared ys))) (sym more);
    }
