use Rattle.md_copy.proofs.SalvageLemmas.LostNoted.{NotesFitting}
use Rattle.md_copy.proofs.salvaging.losing.note_lost.Given as goal

abbrev pub invariant-loop-k : goal.invariant-loop-k
invariant-loop-k g l = NotesFitting l.k l.lost l.fn.mirror l.mirror
