use Rattle.std.proofs.Common.{◌≡◌, ℕ, ◌+◌, ◌*◌, ◌<◌, ◌≤◌, get_or}
use Rattle.md_device.specs.Overlay.{byte_over}
use Rattle.md_device.proofs.overlay.lay_over.Given as goal

abbrev pub invariant-loop-i : goal.invariant-loop-i
invariant-loop-i l = record {
  done : (k : ℕ) → k < 512 * l.i → get_or l.buf k 0 ≡ byte_over l.blocks (512 * l.sector + k) (get_or l.initial.buf k 0);
  rest : (k : ℕ) → 512 * l.i ≤ k → get_or l.buf k 0 ≡ get_or l.initial.buf k 0;
}
