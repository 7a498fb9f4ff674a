use Rattle.std.proofs.Common.{◌≡◌, ◌≤◌, false, true, length, map, vec_capacity, vec_len}
use Rattle.md_images.specs.Images.{allows, asks}
use Rattle.md_images.specs.Taking.{Text, names_of, word_of}
use Rattle.md_images.proofs.Taken.{Taking}
use Rattle.md_images.proofs.taking.take_each.Given as goal

abbrev pub invariant-loop-place : goal.invariant-loop-place
invariant-loop-place g l =
    Taking g.I.Images.known g.I.Images.holds g.I.Images.device_at (λ images n. allows l.fn.access (g.I.Images.changeable images n)) (names_of (map word_of l.words)) l.fn.images l.images l.place l.devices.items
    × (vec_len l.devices ≡ l.place) × (length l.words ≤ vec_capacity l.devices)
    × (g.I.Images.known l.fn.images ≡ true → asks l.fn.access ≡ false → (n : Text) → g.I.Images.asked l.images n ≡ g.I.Images.asked l.fn.images n)
