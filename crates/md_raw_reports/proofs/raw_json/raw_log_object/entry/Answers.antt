use Rattle.std.proofs.Common.{codes}
use Rattle.md_report.specs.AsJson.Objects.{whole}
use Rattle.md_raw_reports.specs.RawJson.RawLog.{entry_fields}
use Rattle.md_streams.proofs.Puts.{puts_then}
use Rattle.md_report.proofs.JsonLemmas.Texts.{puts_object}
use Rattle.md_raw_reports.proofs.raw_json.raw_log_object.entry.Goals as goal

pub returns : goal.returns
unfolding entry_fields
returns g c =
    let start = c.in_ok-next_number.ensures in
    let start = rw (c.u64_at-entry.ensures) at start in
    let long = c.in_ok-next_number-2.ensures in
    let long = rw (c.u64_at-entry.ensures) at long in
    puts_object g.S.Sink.contents g.S.Sink.failed (codes "entry") (whole c.args.place) (entry_fields c.args.area.now c.args.place)
    c.in_ok-open_number.ensures (puts_then g.S.Sink.contents g.S.Sink.failed start (puts_then g.S.Sink.contents g.S.Sink.failed long c.in_ok-put.ensures))
