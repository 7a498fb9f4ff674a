use Rattle.std.proofs.Common.{length}
use Rattle.md_files.proofs.MaskLemmas.MapLemmas.Lines.{IsReadUpTo}
use Rattle.md_files.proofs.masks.maps.map.read_map.Given as goal

abbrev pub invariant-loop-len : goal.invariant-loop-len
invariant-loop-len l = IsReadUpTo l.size l.text l.rest l.number l.reading.end l.reading.missing

abbrev pub decreases-loop-len : goal.decreases-loop-len
decreases-loop-len l = length l.rest
