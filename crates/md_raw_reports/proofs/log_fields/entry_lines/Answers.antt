use Rattle.std.proofs.Common.{ℕ, List, subst}
use Rattle.md_streams.specs.Sink.{Puts}
use Rattle.md_raw_reports.specs.LogFields.{entry_text}
use Rattle.md_streams.proofs.Puts.{puts_then, puts_nothing}
use Rattle.md_examine.proofs.Texts.{flat_map_next}
use Rattle.md_raw_reports.proofs.log_fields.entry_lines.Goals as goal

pub loop-place-init : goal.loop-place-init
loop-place-init g c = puts_nothing g.S.Sink.contents g.S.Sink.failed c.args.out.now

pub loop-place-preserved : goal.loop-place-preserved
loop-place-preserved g c =
    let P : List ℕ → Type 0 = λ t. Puts g.S.Sink.contents g.S.Sink.failed c.args.out.now c.entry.new.out t in
    subst P (flat_map_next (entry_text c.args.area.now) c.loop-place.place)
    (puts_then g.S.Sink.contents g.S.Sink.failed c.loop-place.invariant c.in_ok-entry.ensures)
