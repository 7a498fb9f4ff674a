use Rattle.md_call_laws.proofs.RebuildLemmas.HeldBefore.{held_in_lives, new_had_nothing, recovering_held_it, taken_back_held_it}
use Rattle.md_call_laws.proofs.rebuilds.laws.held_before.Goals as goal

pub returns : goal.returns
returns c = record { new = new_had_nothing; taken_back = taken_back_held_it; recovering = recovering_held_it; in_lives = held_in_lives }
