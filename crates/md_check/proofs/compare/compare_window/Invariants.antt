use Rattle.std.proofs.Common.{◌+◌}
use Rattle.md_check.specs.Differences.{AddsCompared}
use Rattle.md_check.specs.Readers.{ReaderShows, in_window}
use Rattle.md_check.proofs.compare.compare_window.Given as goal

abbrev pub invariant-loop-at : goal.invariant-loop-at
invariant-loop-at g l = AddsCompared (ReaderShows (in_window l.lead l.from) l.readers) l.chunks l.from (l.from + l.at) l.initial.found l.found
