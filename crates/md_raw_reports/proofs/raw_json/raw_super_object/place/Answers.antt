use Rattle.std.proofs.Common.{codes}
use Rattle.md_report.specs.AsJson.Objects.{whole}
use Rattle.md_raw_reports.specs.RawJson.RawSuper.{elsewhere_fields, found_sector}
use Rattle.md_streams.proofs.Puts.{puts_then}
use Rattle.md_report.proofs.JsonLemmas.Texts.{puts_object}
use Rattle.md_raw_reports.proofs.raw_json.raw_super_object.place.Goals as goal

pub returns : goal.returns
unfolding elsewhere_fields
returns g c =
    let sector = c.in_ok-open_number.ensures in
    let sector = rw (c.found_sector.ensures) at sector in
    puts_object g.S.Sink.contents g.S.Sink.failed (codes "sector") (whole (found_sector c.args.found.now)) (elsewhere_fields c.args.found.now)
    sector (puts_then g.S.Sink.contents g.S.Sink.failed c.in_ok-next_array.ensures c.in_ok-put.ensures)
