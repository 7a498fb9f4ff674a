use Rattle.std.proofs.Common.{codes}
use Rattle.md_report.specs.AsJson.Objects.{whole}
use Rattle.md_examine_commands.specs.ScanObject.{scan_member_fields}
use Rattle.md_streams.proofs.Puts.{puts_then}
use Rattle.md_report.proofs.JsonLemmas.Texts.{puts_object}
use Rattle.md_examine_commands.proofs.scan.scan_object.member_in.Goals as goal

pub returns : goal.returns
unfolding scan_member_fields
returns g c =
    puts_object g.S.Sink.contents g.S.Sink.failed (codes "device_number") (whole c.args.seen.now.superblock.dev_number) (scan_member_fields c.args.state c.args.seen.now)
    c.in_ok-open_number.ensures (puts_then g.S.Sink.contents g.S.Sink.failed c.in_ok-put_image.ensures (puts_then g.S.Sink.contents g.S.Sink.failed c.in_ok-next_uuid.ensures (puts_then g.S.Sink.contents g.S.Sink.failed c.in_ok-role.ensures (puts_then g.S.Sink.contents g.S.Sink.failed c.in_ok-put_state.ensures (puts_then g.S.Sink.contents g.S.Sink.failed c.in_ok-next_number.ensures (c.in_ok-put.ensures))))))
