use Rattle.std.proofs.Common.{◌≡◌, ℕ, List, true}
use Rattle.md_examine_commands.proofs.ImagesLooked.{Looking}
use Rattle.md_examine_commands.proofs.scan.each_image.look_at_each.Given as goal

abbrev pub invariant-loop-place : goal.invariant-loop-place
invariant-loop-place g l = record {
  looking : Looking g.I.Images g.I.Dev.Device l.names l.place l.fn.images l.images l.looked;
  known : g.I.Images.known l.images ≡ g.I.Images.known l.fn.images;
  asked : g.I.Images.known l.fn.images ≡ true → (n : List ℕ) → g.I.Images.asked l.images n ≡ g.I.Images.asked l.fn.images n;
}
