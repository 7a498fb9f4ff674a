use Rattle.std.proofs.Common.{◌≡◌, ℕ, ◌<◌, get_or}
use Rattle.md_cert.proofs.SeenTurns.{Seen}
use Rattle.md_cert.proofs.rounds.first_double.Given as goal

abbrev pub invariant-loop-word : goal.invariant-loop-word
invariant-loop-word l = (k : ℕ) → k < l.word-index → get_or l.lent k 0 ≡ 0

abbrev pub invariant-loop-slot : goal.invariant-loop-slot
invariant-loop-slot l = Seen l.slots l.lent l.slot-index
