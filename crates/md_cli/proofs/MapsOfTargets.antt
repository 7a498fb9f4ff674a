-- Whether a command goes on.
use Rattle.std.proofs.Common.{Err, Ok, Result, inl}
use Rattle.md_refusals.specs.declared.fault.CommandFault.{CommandFault}
use Rattle.md_messages.specs.Question.{Question}
use Rattle.md_messages.specs.declared.notices.Notices.{Notices}
use Rattle.md_state.specs.View.{ArrayView}
use Rattle.md_words.specs.Asks.{Ask}
use Rattle.md_cli.specs.Lacking.{Maps}
use Rattle.md_cli.specs.MapOfTarget.{GoesOnIf, LacksInTarget}

-- it goes on by the question, where the member that it rebuilds lacks nothing
pub goes_on_if : {A : Type 0} (q : Question A) (n : Notices) (lacking : Maps) (ask : Ask) (a : ArrayView) (old new : A) (result : Result (Unit {0}) CommandFault)
    → (LacksInTarget lacking ask a → ⊥) → q n old new result → GoesOnIf q n lacking ask a old new result
goes_on_if q n lacking ask a old new (Ok v) none asked = (none, asked)
goes_on_if q n lacking ask a old new (Err fault) none asked = inl (none, asked)
