use Rattle.std.proofs.Common.{◌↔◌, ℕ, List, subst, sym}
use Rattle.std.specs.Prelude.{IfOk}
use Rattle.md_badblocks.specs.Runs.{IsBad}
use Rattle.md_badblocks.specs.declared.run.Run.{Run}
use Rattle.md_cli.specs.Lacking.{CountsBefore}
use Rattle.md_cli.specs.declared.lists.holes.BeforeResync.{BeforeResync}
use Rattle.md_cli.proofs.lists.holes.counted_before.Goals as goal

pub returns-in-All : goal.returns-in-All
returns-in-All g c =
    subst (λ (w : BeforeResync). (s : ℕ) → IsBad c.args.holes s ↔ (IsBad c.args.holes s × CountsBefore w c.args.lacking.now c.args.mirror.now.array s)) (sym c.in-All.is)
    (λ s. (λ bad. (bad, tt), λ h. h.0))

pub returns-in-Given : goal.returns-in-Given
returns-in-Given g c =
    subst (λ (w : BeforeResync). IfOk c.unmarked_or_given.result (λ sectors. (s : ℕ) → IsBad sectors s ↔ (IsBad c.args.holes s × CountsBefore w c.args.lacking.now c.args.mirror.now.array s))) (sym c.in-Given.is)
    c.unmarked_or_given.ensures

pub returns-in-Nothing : goal.returns-in-Nothing
returns-in-Nothing g c =
    subst (λ (w : BeforeResync). (s : ℕ) → IsBad c.new.result s ↔ (IsBad c.args.holes s × CountsBefore w c.args.lacking.now c.args.mirror.now.array s)) (sym c.in-Nothing.is)
    (λ s. (λ bad. absurd (subst (λ (xs : List Run). IsBad xs s) c.new.ensures bad), λ h. absurd h.1))
