-- What a comparison of members finds.
use Rattle.std.specs.Prelude.{◌≡◌}
use Rattle.std.specs.Int.{div_ceil}
use Rattle.std.specs.List.{All}
use Rattle.md_bitmap.specs.declared.chunks.Chunks.{Chunks}
use Rattle.md_collect.specs.declared.found.Comparison.{Comparison}
use Rattle.md_collect.specs.declared.found.Pair.{Pair}

-- the pair's set is one of these chunks
abbrev pub IsPairSized : Chunks → Pair → Type 0
IsPairSized chunks pair = pair.chunks.chunks ≡ div_ceil chunks.size chunks.sectors

-- each set is one of these chunks
pub record IsSized (chunks : Chunks) (found : Comparison) : Type 0 where
  pub sized : found.chunks.chunks ≡ div_ceil chunks.size chunks.sectors
  pub pairs_sized : All (IsPairSized chunks) found.pairs.items
