use Rattle.std.specs.List.{flat_map}
use Rattle.md_streams.specs.Sink.{Puts}
use Rattle.md_files.specs.Streams.CodedText.{coded_char}
use Rattle.md_files.proofs.streams.coded_text.put_coded.Given as goal

abbrev pub invariant-loop-c : goal.invariant-loop-c
invariant-loop-c g l = Puts g.S.Sink.contents g.S.Sink.failed l.fn.out l.out (flat_map coded_char l.yielded)
