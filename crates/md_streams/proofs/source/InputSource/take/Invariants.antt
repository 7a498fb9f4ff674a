use Rattle.std.proofs.Common.{◌≡◌, None}
use Rattle.std.specs.Io.KnownBytes.{Keeps}
use Rattle.md_streams.proofs.source.InputSource.take.Given as goal

abbrev pub invariant-loop : goal.invariant-loop
invariant-loop g l = record {
  keeps : Keeps (g.R.Read.remaining l.fn.self.reader) (g.R.Read.remaining l.self.reader);
  well : l.self.failed ≡ l.fn.self.failed;
  untold : l.self.told ≡ None;
}
