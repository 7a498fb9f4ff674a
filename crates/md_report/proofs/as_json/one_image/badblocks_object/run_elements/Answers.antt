use Rattle.std.proofs.Common.{ℕ, false, List, ap, refl, subst, arith, rules}
use Rattle.std.proofs.lemmas.List.{take_all}
use Rattle.md_streams.specs.Sink.{Puts}
use Rattle.md_streams.proofs.Puts.{puts_then, puts_nothing}
use Rattle.md_report.specs.AsJson.Objects.{elements_text}
use Rattle.md_report.specs.AsJson.OneImage.BadblocksObject.{run_object}
use Rattle.md_report.proofs.JsonLemmas.Texts.{element_at, later_next}
use Rattle.md_report.proofs.as_json.one_image.badblocks_object.run_elements.Goals as goal

pub loop-run-init : goal.loop-run-init
unfolding elements_text
loop-run-init g c = record { puts = puts_nothing g.S.Sink.contents g.S.Sink.failed c.args.out.now; later = refl }

pub loop-run-preserved : goal.loop-run-preserved
loop-run-preserved g c =
    let P : List ℕ → Type 0 = λ t. Puts g.S.Sink.contents g.S.Sink.failed c.args.out.now c.run_element.new.out t in
    let own = c.in_ok-run_element.ensures in
    let own = rw (c.loop-run.invariant.later) at own in
    record {
      puts = subst P (element_at run_object false c.args.runs.now c.loop-run.run-index _ c.loop-run-test.true) (puts_then g.S.Sink.contents g.S.Sink.failed c.loop-run.invariant.puts own);
      later = later_next false c.loop-run.run-index;
    }

pub returns : goal.returns
returns g c =
    let P : List ℕ → Type 0 = λ t. Puts g.S.Sink.contents g.S.Sink.failed c.args.out.now c.loop-run.out t in
    subst P (ap (elements_text run_object false) (take_all c.loop-run.run-index c.args.runs.now (search (rules, arith)))) c.loop-run.invariant.puts
