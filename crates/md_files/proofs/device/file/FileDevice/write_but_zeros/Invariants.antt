use Rattle.std.proofs.Common.{◌*◌, ◌≤◌, length}
use Rattle.md_files.proofs.device.file.FileDevice.write_but_zeros.Given as goal

abbrev pub invariant-loop-piece : goal.invariant-loop-piece
invariant-loop-piece l = record {
  before : l.start ≤ 65536 * l.piece;
  within : 65536 * l.piece ≤ length l.bytes;
}
