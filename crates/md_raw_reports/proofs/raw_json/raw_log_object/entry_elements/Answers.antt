use Rattle.std.proofs.Common.{◌∙◌, ℕ, false, List, ap, refl, sym, length, subst}
use Rattle.std.specs.List.{filter, range_with_len}
use Rattle.md_bitmap.proofs.Numbers.{range_more}
use Rattle.md_streams.specs.Sink.{Puts}
use Rattle.md_streams.proofs.Puts.{puts_then, puts_nothing}
use Rattle.md_report.specs.AsJson.Objects.{elements_text}
use Rattle.md_raw_reports.specs.RawJson.RawLog.{entry_object, is_entry}
use Rattle.md_report.proofs.JsonLemmas.Chosen.{chosen_more, later_chosen}
use Rattle.md_report.proofs.JsonLemmas.Texts.{is_later}
use Rattle.md_raw_reports.proofs.raw_json.raw_log_object.entry_elements.Goals as goal

pub loop-place-init : goal.loop-place-init
unfolding elements_text
loop-place-init g c = record { puts = puts_nothing g.S.Sink.contents g.S.Sink.failed c.args.out.now; later = refl }

pub loop-place-preserved : goal.loop-place-preserved
loop-place-preserved g c =
    let k = c.loop-place.place in
    let P : List ℕ → Type 0 = λ t. Puts g.S.Sink.contents g.S.Sink.failed c.args.out.now c.entry_where.new.out t in
    let own = c.in_ok-entry_where.ensures in
    let own = rw (c.loop-place.invariant.later) at own in
    let more = range_more k in
    record {
      puts = subst P (chosen_more (entry_object c.args.area.now) (is_entry c.args.area.now) (range_with_len 0 k) k c.is_entry-is_there.result c.is_entry-is_there.ensures ∙ ap (λ (ys : List ℕ). elements_text (entry_object c.args.area.now) false (filter (is_entry c.args.area.now) ys)) (sym more)) (puts_then g.S.Sink.contents g.S.Sink.failed c.loop-place.invariant.puts own);
      later = c.stands_before-later.ensures ∙ later_chosen (entry_object c.args.area.now) (is_entry c.args.area.now) (range_with_len 0 k) k c.loop-place.later c.is_entry-is_there.result c.loop-place.invariant.later c.is_entry-is_there.ensures ∙ ap (λ (ys : List ℕ). is_later false (length (filter (is_entry c.args.area.now) ys))) (sym more);
    }
