use Rattle.std.proofs.Common.{codes}
use Rattle.md_report.specs.AsJson.Objects.{whole}
use Rattle.md_examine_commands.specs.ScanObject.{scan_array_fields}
use Rattle.md_streams.proofs.Puts.{puts_then}
use Rattle.md_report.proofs.JsonLemmas.Texts.{puts_object}
use Rattle.md_examine_commands.proofs.scan.scan_object.array.Goals as goal

pub returns : goal.returns
unfolding scan_array_fields
returns g c =
    puts_object g.S.Sink.contents g.S.Sink.failed (codes "raid_devices") (whole c.args.v.now.raid_disks) (scan_array_fields c.args.v.now c.args.all.now)
    c.in_ok-open_number.ensures (puts_then g.S.Sink.contents g.S.Sink.failed c.in_ok-next_uuid.ensures (puts_then g.S.Sink.contents g.S.Sink.failed c.in_ok-next_name.ensures (puts_then g.S.Sink.contents g.S.Sink.failed c.in_ok-next_text.ensures (puts_then g.S.Sink.contents g.S.Sink.failed c.in_ok-next_text-2.ensures (puts_then g.S.Sink.contents g.S.Sink.failed c.in_ok-next_number.ensures (puts_then g.S.Sink.contents g.S.Sink.failed c.in_ok-members.ensures (puts_then g.S.Sink.contents g.S.Sink.failed c.in_ok-missing.ensures (c.in_ok-put.ensures))))))))
