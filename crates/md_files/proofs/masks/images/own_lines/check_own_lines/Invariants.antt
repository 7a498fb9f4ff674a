use Rattle.md_files.specs.Masks.Images.OwnLines.{AreOwn}
use Rattle.md_files.proofs.masks.images.own_lines.check_own_lines.Given as goal

abbrev pub invariant-loop-place : goal.invariant-loop-place
invariant-loop-place l = AreOwn l.names l.maps l.place
