-- What callers see of a writer as a sink.
use Rattle.std.specs.Prelude.{Bool}
use Rattle.md_streams.specs.declared.sink.Output.{Output}

abbrev pub writer_of : {W : Type 0} → Output W → W
writer_of o = o.writer

abbrev pub output_has_failed : {W : Type 0} → Output W → Bool
output_has_failed o = o.failed
