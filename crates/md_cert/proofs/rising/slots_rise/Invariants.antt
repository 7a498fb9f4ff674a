use Rattle.std.proofs.Common.{ℕ, ◌<◌, get_or}
use Rattle.md_cert.specs.declared.slots.Slot.{Slot}
use Rattle.md_cert.proofs.rising.slots_rise.Given as goal

abbrev pub invariant-loop-i : goal.invariant-loop-i
invariant-loop-i l = (a b : ℕ) (d : Slot) → a < b → b < l.i → (get_or l.slots a d).chunk < (get_or l.slots b d).chunk
