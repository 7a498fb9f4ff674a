use Rattle.std.proofs.Common.{◌≡◌, length}
use Rattle.std.specs.List.{All, flat_map, range_with_len}
use Rattle.md_check.specs.Differences.{IsEmptySet}
use Rattle.md_collect.specs.Found.{IsPairSized}
use Rattle.md_check.specs.Pairs.{pair_names, pairs_with}
use Rattle.md_check.proofs.pairs.pairs_in_sync.Given as goal

abbrev pub invariant-loop-one : goal.invariant-loop-one
invariant-loop-one g l = record {
  names : pair_names l.pairs.items ≡ flat_map (pairs_with l.mirror.array (length l.mirror.array.members)) (range_with_len 0 l.one);
  sized : All (IsPairSized l.mirror.array.chunks) l.pairs.items;
  empty : All (λ pair. IsEmptySet pair.chunks) l.pairs.items;
}
