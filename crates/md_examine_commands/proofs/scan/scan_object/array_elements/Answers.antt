use Rattle.std.proofs.Common.{◌≡◌, ◌∙◌, ℕ, false, List, ap, refl, sym, length, subst, arith}
use Rattle.std.specs.List.{filter, range_with_len}
use Rattle.md_bitmap.proofs.Numbers.{range_more}
use Rattle.md_streams.specs.Sink.{Puts}
use Rattle.md_streams.proofs.Puts.{puts_then, puts_nothing}
use Rattle.md_report.specs.AsJson.Objects.{elements_text}
use Rattle.md_examine_commands.specs.ScanObject.{array_at_value, is_first_at}
use Rattle.md_report.proofs.JsonLemmas.Chosen.{chosen_more, later_chosen}
use Rattle.md_report.proofs.JsonLemmas.Texts.{is_later}
use Rattle.md_examine_commands.proofs.scan.scan_object.array_elements.Goals as goal

pub loop-place-init : goal.loop-place-init
unfolding elements_text
loop-place-init g c = record { puts = puts_nothing g.S.Sink.contents g.S.Sink.failed c.args.out.now; later = refl }

pub loop-place-preserved : goal.loop-place-preserved
loop-place-preserved g c =
    let k = c.loop-place.place in
    let P : List ℕ → Type 0 = λ t. Puts g.S.Sink.contents g.S.Sink.failed c.args.out.now c.array_where.new.out t in
    let own = c.in_ok-array_where.ensures in
    let own = rw (c.loop-place.invariant.later) at own in
    let more = range_more k in
    record {
      puts = subst P (chosen_more (array_at_value c.args.all.now) (is_first_at c.args.all.now) (range_with_len 0 k) k c.is_first-is_there.result c.is_first-is_there.ensures ∙ ap (λ (ys : List ℕ). elements_text (array_at_value c.args.all.now) false (filter (is_first_at c.args.all.now) ys)) (sym more)) (puts_then g.S.Sink.contents g.S.Sink.failed c.loop-place.invariant.puts own);
      later = c.stands_before-later.ensures ∙ later_chosen (array_at_value c.args.all.now) (is_first_at c.args.all.now) (range_with_len 0 k) k c.loop-place.later c.is_first-is_there.result c.loop-place.invariant.later c.is_first-is_there.ensures ∙ ap (λ (ys : List ℕ). is_later false (length (filter (is_first_at c.args.all.now) ys))) (sym more);
    }

pub returns : goal.returns
returns g c =
    let all : c.loop-place.place ≡ length c.args.all.now = omega arith in
    let P : ℕ → Type 0 = λ n. Puts g.S.Sink.contents g.S.Sink.failed c.args.out.now c.loop-place.out (elements_text (array_at_value c.args.all.now) false (filter (is_first_at c.args.all.now) (range_with_len 0 n))) in
    subst P all c.loop-place.invariant.puts
