use Rattle.std.proofs.Common.{◌≡◌, ◌*◌, take}
use Rattle.std.specs.List.{flat_map}
use Rattle.byteorder.specs.Endian.{little_bytes}
use Rattle.md_badblocks.specs.Runs.{entries_needed}
use Rattle.md_badblocks.specs.Log.{entries_of}
use Rattle.md_badblocks.proofs.log.write_runs.Given as goal

abbrev pub invariant-loop-run : goal.invariant-loop-run
invariant-loop-run l =
    (l.place ≡ entries_needed (take l.run-index l.runs)) × (take (8 * l.place) l.buf ≡ flat_map (little_bytes 8) (flat_map entries_of (take l.run-index l.runs)))
