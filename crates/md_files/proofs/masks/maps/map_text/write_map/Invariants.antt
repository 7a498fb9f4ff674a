use Rattle.std.proofs.Common.{string_bytes}
use Rattle.md_files.proofs.MaskLemmas.MapLemmas.Written.{IsWrittenUpTo}
use Rattle.md_files.proofs.masks.maps.map_text.write_map.Given as goal

abbrev pub invariant-loop-run : goal.invariant-loop-run
invariant-loop-run l = IsWrittenUpTo l.size l.tried l.run-items l.run-index l.from (string_bytes l.text)
