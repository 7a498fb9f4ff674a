use Rattle.md_streams.proofs.Puts.{puts_then}
use Rattle.md_examine_commands.specs.ScanText.{devices_line}
use Rattle.md_examine_commands.proofs.scan.array_entry.put_devices_line.Goals as goal

pub returns : goal.returns
unfolding devices_line
returns g c =
    puts_then g.S.Sink.contents g.S.Sink.failed (puts_then g.S.Sink.contents g.S.Sink.failed (puts_then g.S.Sink.contents g.S.Sink.failed c.in_ok-put.ensures c.in_ok-put_device.ensures) c.in_ok-put_later_devices.ensures) c.in_ok-put-2.ensures
