use Rattle.std.proofs.Common.{codes}
use Rattle.md_report.specs.AsJson.Objects.{whole}
use Rattle.md_raw_reports.specs.RawJson.RawSuper.{role_fields}
use Rattle.md_streams.proofs.Puts.{puts_then}
use Rattle.md_report.proofs.JsonLemmas.Texts.{puts_object}
use Rattle.md_raw_reports.proofs.raw_json.raw_super_object.role.Goals as goal

pub returns : goal.returns
unfolding role_fields
returns g c =
    let role = c.in_ok-next_number.ensures in
    let role = rw (c.role_at.ensures) at role in
    puts_object g.S.Sink.contents g.S.Sink.failed (codes "device_number") (whole c.args.number) (role_fields c.args.bytes.now c.args.number)
    c.in_ok-open_number.ensures (puts_then g.S.Sink.contents g.S.Sink.failed role c.in_ok-put.ensures)
