use Rattle.std.proofs.Common.{◌-◌, ◌≤◌, length, take}
use Rattle.md_streams.specs.Sink.{Puts}
use Rattle.md_files.proofs.sparse.sparse.put_blocks.Given as goal

abbrev pub decreases-loop-at : goal.decreases-loop-at
decreases-loop-at g l = length l.bytes - l.at

abbrev pub invariant-loop-at : goal.invariant-loop-at
invariant-loop-at g l = record {
  before : l.start ≤ l.at;
  within : l.at ≤ length l.bytes;
  puts : Puts g.F.HoleFile.contents g.F.HoleFile.failed l.fn.file l.file (take l.start l.bytes);
}
