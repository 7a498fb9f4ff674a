use Rattle.md_raw_reports.specs.SuperFields.{fields_text}
use Rattle.md_streams.proofs.Puts.{puts_then}
use Rattle.md_raw_reports.proofs.super_fields.shown_fields.Goals as goal

pub returns : goal.returns
unfolding fields_text
returns g c =
    puts_then g.S.Sink.contents g.S.Sink.failed (puts_then g.S.Sink.contents g.S.Sink.failed c.in_ok-field_lines.ensures c.in_ok-computed_sum.ensures) c.in_ok-role_lines.ensures
