use Rattle.std.proofs.Common.{take}
use Rattle.std.specs.List.{flat_map}
use Rattle.json.specs.Print.{escape_byte}
use Rattle.md_streams.specs.Sink.{Puts}
use Rattle.md_report.proofs.as_json.quoting.put_escaped.Given as goal

abbrev pub invariant-loop-byte : goal.invariant-loop-byte
invariant-loop-byte g l = Puts g.S.Sink.contents g.S.Sink.failed l.fn.out l.out (flat_map escape_byte (take l.byte-index l.text))
