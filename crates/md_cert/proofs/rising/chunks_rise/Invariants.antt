use Rattle.std.proofs.Common.{ℕ, ◌<◌, get_or}
use Rattle.md_cert.proofs.rising.chunks_rise.Given as goal

abbrev pub invariant-loop-i : goal.invariant-loop-i
invariant-loop-i l = (a b : ℕ) (d : ℕ) → a < b → b < l.i → (get_or l.chunks a d) < (get_or l.chunks b d)
