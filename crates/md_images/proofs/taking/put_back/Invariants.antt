use Rattle.std.proofs.Common.{◌≡◌, true, length, map}
use Rattle.md_images.specs.Taking.{Text, names_of, word_of}
use Rattle.md_images.proofs.Taken.{Putting}
use Rattle.md_images.proofs.taking.put_back.Given as goal

abbrev pub invariant-loop-device : goal.invariant-loop-device
invariant-loop-device g l =
    Putting g.I.Images.known g.I.Images.holds g.I.Images.device_at g.I.Images.changeable (names_of (map word_of l.words)) l.fn.images l.images l.fn.devices.items l.devices.items
    × (g.I.Images.known l.fn.images ≡ true → (n : Text) → g.I.Images.asked l.images n ≡ g.I.Images.asked l.fn.images n)

abbrev pub decreases-loop-device : goal.decreases-loop-device
decreases-loop-device g l = length l.devices.items
