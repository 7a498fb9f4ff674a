use Rattle.std.proofs.Common.{ℕ, false, List, ap, refl, subst, arith, rules}
use Rattle.std.proofs.lemmas.List.{take_all}
use Rattle.md_streams.specs.Sink.{Puts}
use Rattle.md_streams.proofs.Puts.{puts_then, puts_nothing}
use Rattle.md_report.specs.AsJson.Objects.{elements_text, whole}
use Rattle.md_report.proofs.JsonLemmas.Texts.{element_at, later_next}
use Rattle.md_report.proofs.as_json.rebuilds.plan_object.number_elements.Goals as goal

pub loop-n-init : goal.loop-n-init
unfolding elements_text
loop-n-init g c = record { puts = puts_nothing g.S.Sink.contents g.S.Sink.failed c.args.out.now; later = refl }

pub loop-n-preserved : goal.loop-n-preserved
loop-n-preserved g c =
    let P : List ℕ → Type 0 = λ t. Puts g.S.Sink.contents g.S.Sink.failed c.args.out.now c.number_element.new.out t in
    let own = c.in_ok-number_element.ensures in
    let own = rw (c.loop-n.invariant.later) at own in
    record {
      puts = subst P (element_at whole false c.args.numbers.now c.loop-n.n-index _ c.loop-n-test.true) (puts_then g.S.Sink.contents g.S.Sink.failed c.loop-n.invariant.puts own);
      later = later_next false c.loop-n.n-index;
    }

pub returns : goal.returns
returns g c =
    let P : List ℕ → Type 0 = λ t. Puts g.S.Sink.contents g.S.Sink.failed c.args.out.now c.loop-n.out t in
    subst P (ap (elements_text whole false) (take_all c.loop-n.n-index c.args.numbers.now (search (rules, arith)))) c.loop-n.invariant.puts
