use Rattle.std.proofs.Common.{ℕ, List, ap, map, subst, arith, rules}
use Rattle.std.proofs.lemmas.List.{take_all}
use Rattle.md_streams.specs.Sink.{Puts}
use Rattle.md_streams.proofs.Puts.{puts_then, puts_nothing}
use Rattle.md_report.specs.AsJson.Objects.{later_text}
use Rattle.md_raw_reports.specs.RawJson.RawFields.{table_field}
use Rattle.md_report.proofs.JsonLemmas.Chosen.{later_at}
use Rattle.md_report.proofs.JsonLemmas.Texts.{puts_last}
use Rattle.md_raw_reports.proofs.raw_json.raw_fields.next_fields.Goals as goal

pub loop-field-init : goal.loop-field-init
unfolding later_text
loop-field-init g c = puts_nothing g.S.Sink.contents g.S.Sink.failed c.args.out.now

pub loop-field-preserved : goal.loop-field-preserved
unfolding later_text
loop-field-preserved g c =
    let P : List ℕ → Type 0 = λ t. Puts g.S.Sink.contents g.S.Sink.failed c.args.out.now c.next_field.new.out t in
    subst P (later_at (table_field c.args.bytes.now) c.args.fields.now c.loop-field.field-index _ c.loop-field-test.true)
    (puts_then g.S.Sink.contents g.S.Sink.failed c.loop-field.invariant (puts_last g.S.Sink.contents g.S.Sink.failed c.in_ok-next_field.ensures))

pub returns : goal.returns
returns g c =
    let P : List ℕ → Type 0 = λ t. Puts g.S.Sink.contents g.S.Sink.failed c.args.out.now c.loop-field.out t in
    subst P (ap (λ (fs : List _). later_text (map (table_field c.args.bytes.now) fs)) (take_all c.loop-field.field-index c.args.fields.now (search (rules, arith)))) c.loop-field.invariant
