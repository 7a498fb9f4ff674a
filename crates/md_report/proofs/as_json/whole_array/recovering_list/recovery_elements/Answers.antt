use Rattle.std.proofs.Common.{◌∙◌, ◌||◌, ◌<◌, Bool, ℕ, List, ap, length, refl, subst, arith}
use Rattle.md_streams.specs.Sink.{Puts}
use Rattle.md_streams.proofs.Puts.{puts_then, puts_nothing}
use Rattle.md_report.specs.Recovery.{recoveries}
use Rattle.md_report.specs.AsJson.Objects.{elements_text}
use Rattle.md_report.proofs.Recoveries.{elements_more, later_more}
use Rattle.md_report.proofs.as_json.whole_array.recovering_list.recovery_elements.Goals as goal

pub loop-k-init : goal.loop-k-init
unfolding elements_text recoveries
loop-k-init g c = record { puts = puts_nothing g.S.Sink.contents g.S.Sink.failed c.args.out.now; later = refl }

pub loop-k-preserved : goal.loop-k-preserved
loop-k-preserved g c =
    let a = c.args.mirror.now.array in
    let inside : c.loop-k.k < length a.members = omega arith in
    let found = c.recovery_at-found.result in
    let is = c.recovery_at-found.ensures in
    let P : List ℕ → Type 0 = λ t. Puts g.S.Sink.contents g.S.Sink.failed c.args.out.now c.put_element_if.new.out t in
    let own = c.in_ok-put_element_if.ensures in
    let own = rw (c.loop-k.invariant.later) at own in
    record {
      puts = subst P (elements_more a a.members c.loop-k.k found inside is) (puts_then g.S.Sink.contents g.S.Sink.failed c.loop-k.invariant.puts own);
      later = c.stands_before-later.ensures ∙ ap (λ (b : Bool). c.loop-k.later || b) c.is_some.ensures ∙ later_more a a.members c.loop-k.k found c.loop-k.later inside is c.loop-k.invariant.later;
    }
