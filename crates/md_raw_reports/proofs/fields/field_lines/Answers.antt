use Rattle.std.proofs.Common.{ℕ, List, ap, subst, arith, rules}
use Rattle.std.specs.List.{flat_map}
use Rattle.std.proofs.lemmas.List.{take_all}
use Rattle.md_streams.specs.Sink.{Puts}
use Rattle.md_raw_reports.specs.Fields.{field_text}
use Rattle.md_streams.proofs.Puts.{puts_then, puts_nothing, flat_map_at}
use Rattle.md_raw_reports.proofs.fields.field_lines.Goals as goal

pub loop-field-init : goal.loop-field-init
loop-field-init g c = puts_nothing g.S.Sink.contents g.S.Sink.failed c.args.out.now

pub loop-field-preserved : goal.loop-field-preserved
loop-field-preserved g c =
    let P : List ℕ → Type 0 = λ t. Puts g.S.Sink.contents g.S.Sink.failed c.args.out.now c.field_line.new.out t in
    subst P (flat_map_at (field_text c.args.bytes.now) c.args.fields.now c.loop-field.field-index _ c.loop-field-test.true)
    (puts_then g.S.Sink.contents g.S.Sink.failed c.loop-field.invariant c.in_ok-field_line.ensures)

pub returns : goal.returns
returns g c =
    let P : List ℕ → Type 0 = λ t. Puts g.S.Sink.contents g.S.Sink.failed c.args.out.now c.loop-field.out t in
    subst P (ap (flat_map (field_text c.args.bytes.now)) (take_all c.loop-field.field-index c.args.fields.now (search (rules, arith)))) c.loop-field.invariant
