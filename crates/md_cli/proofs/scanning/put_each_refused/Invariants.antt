use Rattle.std.proofs.Common.{take}
use Rattle.std.specs.List.{flat_map}
use Rattle.md_streams.specs.Sink.{Puts}
use Rattle.md_cli.specs.Scanning.{unshown_text}
use Rattle.md_cli.proofs.scanning.put_each_refused.Given as goal

abbrev pub invariant-loop-refused : goal.invariant-loop-refused
invariant-loop-refused g l = Puts g.E.Sink.contents g.E.Sink.failed l.fn.err l.err (flat_map (unshown_text l.is_named) (take l.refused-index l.all))
