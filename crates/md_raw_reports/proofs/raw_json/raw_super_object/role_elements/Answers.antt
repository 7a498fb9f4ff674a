use Rattle.std.proofs.Common.{◌∙◌, ℕ, false, List, ap, refl, sym, length, subst}
use Rattle.std.specs.List.{filter, range_with_len}
use Rattle.md_bitmap.proofs.Numbers.{range_more}
use Rattle.md_streams.specs.Sink.{Puts}
use Rattle.md_streams.proofs.Puts.{puts_then, puts_nothing}
use Rattle.md_report.specs.AsJson.Objects.{elements_text}
use Rattle.md_raw_reports.specs.RawJson.RawSuper.{has_role, role_object}
use Rattle.md_report.proofs.JsonLemmas.Chosen.{chosen_more, later_chosen}
use Rattle.md_report.proofs.JsonLemmas.Texts.{is_later}
use Rattle.md_raw_reports.proofs.raw_json.raw_super_object.role_elements.Goals as goal

pub loop-number-init : goal.loop-number-init
unfolding elements_text
loop-number-init g c = record { puts = puts_nothing g.S.Sink.contents g.S.Sink.failed c.args.out.now; later = refl }

pub loop-number-preserved : goal.loop-number-preserved
loop-number-preserved g c =
    let k = c.loop-number.number in
    let P : List ℕ → Type 0 = λ t. Puts g.S.Sink.contents g.S.Sink.failed c.args.out.now c.role_where.new.out t in
    let own = c.in_ok-role_where.ensures in
    let own = rw (c.loop-number.invariant.later) at own in
    let more = range_more k in
    record {
      puts = subst P (chosen_more (role_object c.args.bytes.now) (has_role c.args.bytes.now) (range_with_len 0 k) k c.has_role-is_there.result c.has_role-is_there.ensures ∙ ap (λ (ys : List ℕ). elements_text (role_object c.args.bytes.now) false (filter (has_role c.args.bytes.now) ys)) (sym more)) (puts_then g.S.Sink.contents g.S.Sink.failed c.loop-number.invariant.puts own);
      later = c.stands_before-later.ensures ∙ later_chosen (role_object c.args.bytes.now) (has_role c.args.bytes.now) (range_with_len 0 k) k c.loop-number.later c.has_role-is_there.result c.loop-number.invariant.later c.has_role-is_there.ensures ∙ ap (λ (ys : List ℕ). is_later false (length (filter (has_role c.args.bytes.now) ys))) (sym more);
    }
