use Rattle.std.proofs.Common.{◌∙◌, ℕ, false, List, ap, refl, sym, length, take, subst, arith, rules}
use Rattle.std.specs.List.{filter}
use Rattle.std.proofs.lemmas.List.{take_all, take_more}
use Rattle.md_streams.specs.Sink.{Puts}
use Rattle.md_streams.proofs.Puts.{puts_then, puts_nothing}
use Rattle.md_report.specs.AsJson.Objects.{elements_text}
use Rattle.md_raw_reports.specs.SuperFaults.{is_seen}
use Rattle.md_raw_reports.specs.RawJson.RawSuper.{super_fault_value}
use Rattle.md_report.proofs.JsonLemmas.Chosen.{chosen_more, later_chosen}
use Rattle.md_report.proofs.JsonLemmas.Texts.{is_later}
use Rattle.md_raw_reports.proofs.raw_json.raw_super_object.fault_elements.Goals as goal

pub loop-fault-init : goal.loop-fault-init
unfolding elements_text
loop-fault-init g c = record { puts = puts_nothing g.S.Sink.contents g.S.Sink.failed c.args.out.now; later = refl }

pub loop-fault-preserved : goal.loop-fault-preserved
loop-fault-preserved g c =
    let all = c.args.faults.now in
    let i = c.loop-fault.fault-index in
    let P : List ℕ → Type 0 = λ t. Puts g.S.Sink.contents g.S.Sink.failed c.args.out.now c.text_where.new.out t in
    let own = c.in_ok-text_where.ensures in
    let own = rw (c.loop-fault.invariant.later) at own in
    let own = rw (c.super_fault_name.ensures) at own in
    let more = take_more all i _ c.loop-fault-test.true in
    record {
      puts = subst P (chosen_more super_fault_value (is_seen c.args.read c.args.bytes.now) (take i all) _ c.super_fault_is_seen-is_there.result c.super_fault_is_seen-is_there.ensures ∙ ap (λ (ys : List _). elements_text super_fault_value false (filter (is_seen c.args.read c.args.bytes.now) ys)) (sym more)) (puts_then g.S.Sink.contents g.S.Sink.failed c.loop-fault.invariant.puts own);
      later = c.stands_before-later.ensures ∙ later_chosen super_fault_value (is_seen c.args.read c.args.bytes.now) (take i all) _ c.loop-fault.later c.super_fault_is_seen-is_there.result c.loop-fault.invariant.later c.super_fault_is_seen-is_there.ensures ∙ ap (λ (ys : List _). is_later false (length (filter (is_seen c.args.read c.args.bytes.now) ys))) (sym more);
    }

pub returns : goal.returns
returns g c =
    let P : List ℕ → Type 0 = λ t. Puts g.S.Sink.contents g.S.Sink.failed c.args.out.now c.loop-fault.out t in
    subst P (ap (λ (ys : List _). elements_text super_fault_value false (filter (is_seen c.args.read c.args.bytes.now) ys)) (take_all c.loop-fault.fault-index c.args.faults.now (search (rules, arith)))) c.loop-fault.invariant.puts
