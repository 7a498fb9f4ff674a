use Rattle.std.proofs.Common.{take}
use Rattle.std.specs.List.{flat_map}
use Rattle.md_streams.specs.ShownNames.Shown.{byte_text}
use Rattle.md_streams.specs.Sink.{Puts}
use Rattle.md_streams.proofs.shown_names.shown_name.put_escaped.Given as goal

abbrev pub invariant-loop-byte : goal.invariant-loop-byte
invariant-loop-byte g l = Puts g.S.Sink.contents g.S.Sink.failed l.fn.out l.out (flat_map byte_text (take l.byte-index l.name))
