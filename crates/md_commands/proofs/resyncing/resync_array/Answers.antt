use Rattle.std.proofs.Common.{rules, ◌≡◌, refl}
use Rattle.std.specs.Prelude.{Err}
use Rattle.md_refusals.specs.declared.fault.CommandFault.TheVariants.{Stop}
use Rattle.md_resync.specs.Resyncing.{Resyncs}
use Rattle.md_commands.specs.Stopping.{StopsAfter}
use Rattle.md_refusals.proofs.Wrapped.{own_err, own_ok}
use Rattle.md_commands.proofs.Resynced.{resynced_or_not}
use Rattle.md_commands.proofs.resyncing.resync_array.Goals as goal

pub returns-in_err-map_err-2-clause-gives : goal.returns-in_err-map_err-2-clause-gives
returns-in_err-map_err-2-clause-gives g c =
    let through = own_ok _ _ _ c.resync.result _ _ c.resync.ensures.gives c.in_ok-map_err.ensures.cases c.in_ok-map_err.ensures.variant refl in
    let own = own_err _ _ _ c.stop.result _ _ c.stop.ensures.gives c.in_err-map_err-2.ensures.cases refl in
    let is : c.from_residual-in_err-map_err-2.result ≡ Err (Stop own.0) = let post = own.2 in search rules in
    rw is (record { mid = c.resync.new.mirror; through = through; refused = own.1 }, refl)

pub returns-clause-gives : goal.returns-clause-gives
returns-clause-gives g c =
    let through = own_ok _ _ _ c.resync.result _ _ c.resync.ensures.gives c.in_ok-map_err.ensures.cases c.in_ok-map_err.ensures.variant refl in
    let done = own_ok _ _ _ c.stop.result _ _ c.stop.ensures.gives c.in_ok-map_err-2.ensures.cases c.in_ok-map_err-2.ensures.variant refl in
    let stops : StopsAfter (Resyncs c.args.mirror.now) c.stop.new.mirror = record { mid = c.resync.new.mirror; through = through; stops = done } in
    resynced_or_not g.S.Sink c.args.mirror.now c.stop.new.mirror c.args.out.now c.put_summary.new.out stops c.put_summary.result c.put_summary.ensures
