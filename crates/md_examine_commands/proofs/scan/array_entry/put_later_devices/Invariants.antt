use Rattle.std.proofs.Common.{take}
use Rattle.std.specs.List.{flat_map}
use Rattle.md_streams.specs.Sink.{Puts}
use Rattle.md_examine_commands.specs.ScanText.{later_device}
use Rattle.md_examine_commands.proofs.scan.array_entry.put_later_devices.Given as goal

abbrev pub invariant-loop-seen : goal.invariant-loop-seen
invariant-loop-seen g l = Puts g.S.Sink.contents g.S.Sink.failed l.fn.out l.out (flat_map (later_device l.v) (take l.seen-index l.rest))
