use Rattle.std.proofs.Common.{◌≡◌, ℕ, ◌+◌, ◌*◌, ◌<◌, ◌≤◌, ◌⊎◌, Some}
use Rattle.std.specs.BTreeMap.{get}
use Rattle.std.specs.Ordering.{nat_cmp}
use Rattle.md_device.specs.Splice.{part}
use Rattle.md_device.proofs.overlay.keep.Given as goal

abbrev pub invariant-loop-i : goal.invariant-loop-i
invariant-loop-i l = record {
  inside : (k : ℕ) → k < l.i → get nat_cmp l.blocks (l.sector + k) ≡ Some (part l.bytes (512 * k) 512);
  outside : (n : ℕ) → (n < l.sector) ⊎ (l.sector + l.i ≤ n) → get nat_cmp l.blocks n ≡ get nat_cmp l.initial.blocks n;
}
