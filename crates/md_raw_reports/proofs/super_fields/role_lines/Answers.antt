use Rattle.std.proofs.Common.{ℕ, List, subst}
use Rattle.md_streams.specs.Sink.{Puts}
use Rattle.md_raw_reports.specs.SuperFields.{role_line_text}
use Rattle.md_streams.proofs.Puts.{puts_then, puts_nothing}
use Rattle.md_examine.proofs.Texts.{flat_map_next}
use Rattle.md_raw_reports.proofs.super_fields.role_lines.Goals as goal

pub loop-number-init : goal.loop-number-init
loop-number-init g c = puts_nothing g.S.Sink.contents g.S.Sink.failed c.args.out.now

pub loop-number-preserved : goal.loop-number-preserved
loop-number-preserved g c =
    let P : List ℕ → Type 0 = λ t. Puts g.S.Sink.contents g.S.Sink.failed c.args.out.now c.role.new.out t in
    subst P (flat_map_next (role_line_text c.args.bytes.now) c.loop-number.number)
    (puts_then g.S.Sink.contents g.S.Sink.failed c.loop-number.invariant c.in_ok-role.ensures)
