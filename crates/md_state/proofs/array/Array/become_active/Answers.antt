use Rattle.md_state.proofs.Changes.RequestEntered.{was_active, was_clean}
use Rattle.md_state.proofs.array.Array.become_active.Goals as goal

pub returns-then-self : goal.returns-then-self
returns-then-self c = was_clean _ c.args.self.now _ c.self.view_is c.if-self.true

pub returns-else-self : goal.returns-else-self
returns-else-self c = rw (← c.self.view_is) (was_active _ c.if-self.false)
