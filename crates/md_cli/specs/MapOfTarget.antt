-- The map of the member that is rebuilt (this project's own). Of a recovering one part counts as copied: what its image lacks there would
-- come into sync as it stands. Of a spare all is copied.
use Rattle.std.specs.Prelude.{◌≡◌, ◌⊎◌, ℕ, true, Option, Some, None, Result, Ok, Err, MatchResult}
use Rattle.md_assembly.specs.States.{is_recovering}
use Rattle.md_refusals.specs.declared.fault.CommandFault.{CommandFault}
use Rattle.md_refusals.specs.declared.fault.CommandFault.TheVariants.{Options}
use Rattle.md_refusals.specs.declared.option_fault.OptionFault.TheVariants.{MapOfTarget}
use Rattle.md_kept_members.specs.View.{MemberView}
use Rattle.md_messages.specs.Question.{Question}
use Rattle.md_messages.specs.declared.notices.Notices.{Notices}
use Rattle.md_state.specs.Members.{IsMember}
use Rattle.md_state.specs.View.{ArrayView}
use Rattle.md_words.specs.Asks.{Ask, rebuilds}
use Rattle.md_cli.specs.Lacking.{LacksSome, Maps, missing_at}

-- the member that it rebuilds, of those that are in the array
abbrev pub rebuilt_member : Ask → Option ℕ
rebuilt_member (rebuilds k loss form) = Some k
rebuilt_member _ = None

-- Member k is recovering, and its image lacks some sector of the array.
pub record LacksInPart (lacking : Maps) (a : ArrayView) (k : ℕ) : Type 0 where
  pub member : MemberView
  pub at : IsMember a k member
  pub recovering : is_recovering member.state ≡ true
  pub lacks : LacksSome (missing_at lacking k) a member

-- the member that the command rebuilds is recovering, and its image lacks some sector of the array
abbrev pub LacksInTarget : Maps → Ask → ArrayView → Type 0
LacksInTarget lacking ask a = (k : ℕ) × (rebuilt_member ask ≡ Some k) × LacksInPart lacking a k

-- Whether the command goes on: not where that is so, and then nobody is asked; else by the question.
abbrev pub GoesOnIf : {A : Type 0} → Question A → Notices → Maps → Ask → ArrayView → A → A
    → Result (Unit {0}) CommandFault → Type 0
GoesOnIf q n lacking ask a old new result = MatchResult result
    (λ v. (LacksInTarget lacking ask a → ⊥) × q n old new (Ok v))
    (λ fault. (LacksInTarget lacking ask a → ⊥) × q n old new (Err fault)
    ⊎ LacksInTarget lacking ask a × (fault ≡ Options MapOfTarget) × (new ≡ old))
