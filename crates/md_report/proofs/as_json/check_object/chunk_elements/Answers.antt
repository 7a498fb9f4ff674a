use Rattle.std.proofs.Common.{◌∙◌, ℕ, false, List, ap, refl, sym, length, subst}
use Rattle.std.specs.List.{filter, range_with_len}
use Rattle.md_bitmap.proofs.Numbers.{range_more}
use Rattle.md_bitmap.specs.Marks.{is_set}
use Rattle.md_streams.specs.Sink.{Puts}
use Rattle.md_streams.proofs.Puts.{puts_then, puts_nothing}
use Rattle.md_report.specs.AsJson.CheckObject.{chunk_object}
use Rattle.md_report.specs.AsJson.Objects.{elements_text}
use Rattle.md_report.proofs.JsonLemmas.Chosen.{chosen_more, later_chosen}
use Rattle.md_report.proofs.JsonLemmas.Texts.{is_later}
use Rattle.md_report.proofs.as_json.check_object.chunk_elements.Goals as goal

pub loop-c-init : goal.loop-c-init
unfolding elements_text
loop-c-init g c = record { puts = puts_nothing g.S.Sink.contents g.S.Sink.failed c.args.out.now; later = refl }

pub loop-c-preserved : goal.loop-c-preserved
loop-c-preserved g c =
    let k = c.loop-c.c in
    let f = chunk_object c.args.chunks c.args.found.now.pairs.items in
    let differs = is_set c.args.found.now.chunks.bytes in
    let P : List ℕ → Type 0 = λ t. Puts g.S.Sink.contents g.S.Sink.failed c.args.out.now c.chunk_where.new.out t in
    let own = c.in_ok-chunk_where.ensures in
    let own = rw (c.loop-c.invariant.later, c.as_slice.ensures.value) at own in
    let more = range_more k in
    record {
      puts = subst P (chosen_more f differs (range_with_len 0 k) k c.is_marked-differs.result c.is_marked-differs.ensures ∙ ap (λ (ys : List ℕ). elements_text f false (filter differs ys)) (sym more)) (puts_then g.S.Sink.contents g.S.Sink.failed c.loop-c.invariant.puts own);
      later = c.stands_before-later.ensures ∙ later_chosen f differs (range_with_len 0 k) k c.loop-c.later c.is_marked-differs.result c.loop-c.invariant.later c.is_marked-differs.ensures ∙ ap (λ (ys : List ℕ). is_later false (length (filter differs ys))) (sym more);
    }
