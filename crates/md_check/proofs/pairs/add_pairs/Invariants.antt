use Rattle.std.proofs.Common.{◌≡◌, ◌++◌}
use Rattle.std.specs.List.{All, flat_map, range_with_len}
use Rattle.md_check.specs.Differences.{IsEmptySet}
use Rattle.md_collect.specs.Found.{IsPairSized}
use Rattle.md_check.specs.Pairs.{pair_names, pair_of}
use Rattle.md_check.proofs.pairs.add_pairs.Given as goal

abbrev pub invariant-loop-other : goal.invariant-loop-other
invariant-loop-other g l = record {
  names : pair_names l.pairs.items ≡ pair_names l.initial.pairs.items ++ flat_map (pair_of l.mirror.array l.one) (range_with_len 0 l.other);
  sized : All (IsPairSized l.mirror.array.chunks) l.pairs.items;
  empty : All (λ pair. IsEmptySet pair.chunks) l.pairs.items;
}
