use Rattle.std.proofs.Common.{ℕ, List, ap, subst, arith, rules}
use Rattle.std.specs.List.{flat_map}
use Rattle.std.proofs.lemmas.List.{take_all}
use Rattle.md_streams.specs.Sink.{Puts}
use Rattle.md_raw_reports.specs.BitmapFields.{bitmap_fault_text}
use Rattle.md_streams.proofs.Puts.{puts_then, puts_nothing, flat_map_at}
use Rattle.md_raw_reports.proofs.bitmap_fields.fault_lines.Goals as goal

pub loop-fault-init : goal.loop-fault-init
loop-fault-init g c = puts_nothing g.S.Sink.contents g.S.Sink.failed c.args.out.now

pub loop-fault-preserved : goal.loop-fault-preserved
loop-fault-preserved g c =
    let P : List ℕ → Type 0 = λ t. Puts g.S.Sink.contents g.S.Sink.failed c.args.out.now c.line_where_it_stands.new.out t in
    subst P (flat_map_at (bitmap_fault_text c.args.sector.now) c.args.faults.now c.loop-fault.fault-index _ c.loop-fault-test.true)
    (puts_then g.S.Sink.contents g.S.Sink.failed c.loop-fault.invariant c.in_ok-line_where_it_stands.ensures)

pub returns : goal.returns
returns g c =
    let P : List ℕ → Type 0 = λ t. Puts g.S.Sink.contents g.S.Sink.failed c.args.out.now c.loop-fault.out t in
    subst P (ap (flat_map (bitmap_fault_text c.args.sector.now)) (take_all c.loop-fault.fault-index c.args.faults.now (search (rules, arith)))) c.loop-fault.invariant
