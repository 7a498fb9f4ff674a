use Rattle.std.proofs.Common.{rules, ◌≡◌, refl}
use Rattle.std.specs.Prelude.{Err}
use Rattle.md_refusals.specs.declared.fault.CommandFault.TheVariants.{BadMember}
use Rattle.md_commands.proofs.failing.fail_named.Goals as goal

pub returns-in_err-k-clause-gives : goal.returns-in_err-k-clause-gives
returns-in_err-k-clause-gives g c =
    let is : c.from_residual.result ≡ Err BadMember = search rules in
    rw is (record { unchanged = refl; reason = c.in_err-k.ensures.1 })
