-- A member that leaves, as an event of the model.
use Rattle.std.specs.Prelude.{⊤, ℕ, Result, MatchResult}
use Rattle.md_model.specs.Events.{Event}
use Rattle.md_state.specs.View.{MirrorView}
use Rattle.md_array.specs.Events.{Happens}

-- remove
abbrev pub RemoveHappens : ℕ → MirrorView → MirrorView → {T E : Type 0} → Result T E → Type 0
RemoveHappens k old new result = MatchResult result (λ _. Happens old (Event.Remove k) new) (λ _. ⊤)
