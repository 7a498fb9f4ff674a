use Rattle.std.proofs.Common.{rules, Err, ◌≡◌, refl}
use Rattle.md_refusals.specs.declared.fault.CommandFault.TheVariants.{Resync}
use Rattle.md_refusals.proofs.Wrapped.{own_err, own_ok}
use Rattle.md_serve_commands.proofs.Written.{is_ready}
use Rattle.md_serve_commands.proofs.writable.make_ready.Goals as goal

pub returns-in_err-map_err-clause-gives : goal.returns-in_err-map_err-clause-gives
returns-in_err-map_err-clause-gives g c =
    let own = own_err _ _ _ c.resync_if_needed.result _ _ c.resync_if_needed.ensures.gives c.in_err-map_err.ensures.cases refl in
    let passed : c.from_residual.result ≡ Err (Resync own.0) = let post = own.2 in search rules in
    rw passed (c.requires.may, own.1)

pub returns-clause-gives : goal.returns-clause-gives
returns-clause-gives g c =
    is_ready c.args.mirror.now c.resync_if_needed.new.mirror c.requires.may
    (own_ok _ _ _ c.resync_if_needed.result _ _ c.resync_if_needed.ensures.gives c.in_ok-map_err.ensures.cases c.in_ok-map_err.ensures.variant refl)
