use Rattle.std.proofs.Common.{◌≡◌, ◌+◌, ◌<◌, ◌≤◌, ℕ, length, slice_index_or}
use Rattle.md_check.specs.Differences.{AddsToPair}
use Rattle.md_check.specs.Readers.{ReaderShows, in_window}
use Rattle.md_check.proofs.compare.mark_pairs.Given as goal

abbrev pub invariant-loop-p : goal.invariant-loop-p
invariant-loop-p g l = record {
  as_many : length l.pairs.items ≡ length l.initial.pairs.items;
  done : (q : ℕ) (d : _) → q < l.p → AddsToPair (ReaderShows (in_window l.lead l.from) l.readers) l.chunks l.sector (l.sector + 1) (slice_index_or l.initial.pairs.items q d) (slice_index_or l.pairs.items q d);
  rest : (q : ℕ) (d : _) → l.p ≤ q → slice_index_or l.pairs.items q d ≡ slice_index_or l.initial.pairs.items q d;
}
