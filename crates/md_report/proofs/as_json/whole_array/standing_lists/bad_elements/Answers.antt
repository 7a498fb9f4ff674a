use Rattle.std.proofs.Common.{◌∙◌, ◌<◌, ◌++◌, ℕ, false, List, ap, nat_lt, length, take, subst, arith}
use Rattle.serde_json.specs.Written.{comma_if, compact_text}
use Rattle.md_badblocks.specs.declared.run.Run.{Run}
use Rattle.md_streams.specs.Sink.{Puts}
use Rattle.md_streams.proofs.Puts.{puts_then, puts_nothing}
use Rattle.md_report.specs.AsJson.OneImage.BadblocksObject.{run_object}
use Rattle.md_report.specs.AsJson.Objects.{elements_text, list_of}
use Rattle.md_report.specs.AsJson.WholeArray.StandingLists.{bad_value}
use Rattle.md_report.proofs.JsonLemmas.Standing.{bad_more}
use Rattle.md_report.proofs.as_json.whole_array.standing_lists.bad_elements.Goals as goal

pub loop-k-init : goal.loop-k-init
unfolding elements_text
loop-k-init g c = puts_nothing g.S.Sink.contents g.S.Sink.failed c.args.out.now

pub loop-k-preserved : goal.loop-k-preserved
loop-k-preserved g c =
    let members = c.args.mirror.now.array.members in
    let k = c.loop-k.k in
    let inside : k < length members = omega arith in
    let P : List ℕ → Type 0 = λ t. Puts g.S.Sink.contents g.S.Sink.failed c.args.out.now c.bad_element.new.out t in
    let before = elements_text bad_value false (take k members) in
    subst P (ap (λ (runs : List Run). before ++ (comma_if (nat_lt 0 k) ++ compact_text (list_of run_object runs))) c.runs.ensures.runs ∙ bad_more members k c.bad.result.now inside c.bad.ensures)
    (puts_then g.S.Sink.contents g.S.Sink.failed c.loop-k.invariant c.in_ok-bad_element.ensures)
