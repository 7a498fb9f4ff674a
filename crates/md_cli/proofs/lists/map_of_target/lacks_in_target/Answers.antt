use Rattle.std.proofs.Common.{◌∙◌, ℕ, subst, sym}
use Rattle.std.proofs.lemmas.Option.{same_Some}
use Rattle.md_cli.specs.MapOfTarget.{LacksInPart}
use Rattle.md_cli.proofs.lists.map_of_target.lacks_in_target.Goals as goal

pub returns-in-Some : goal.returns-in-Some
returns-in-Some g c = (
  λ yes. (c.in-Some.k, sym c.in-Some.ensures, c.lacks_in_part.ensures.0 yes),
  λ h.
      let same = same_Some h.0 c.in-Some.k (sym h.1 ∙ sym c.in-Some.ensures) in
      c.lacks_in_part.ensures.1 (subst (λ (q : ℕ). LacksInPart c.args.lacking.now c.args.mirror.now.array q) same h.2),
)
