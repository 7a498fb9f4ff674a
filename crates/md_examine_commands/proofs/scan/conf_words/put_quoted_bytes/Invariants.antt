use Rattle.std.proofs.Common.{take}
use Rattle.std.specs.List.{flat_map}
use Rattle.md_streams.specs.Sink.{Puts}
use Rattle.md_examine_commands.specs.ScanText.{quoted_byte}
use Rattle.md_examine_commands.proofs.scan.conf_words.put_quoted_bytes.Given as goal

abbrev pub invariant-loop-byte : goal.invariant-loop-byte
invariant-loop-byte g l = Puts g.S.Sink.contents g.S.Sink.failed l.fn.out l.out (flat_map (quoted_byte) (take l.byte-index l.word))
