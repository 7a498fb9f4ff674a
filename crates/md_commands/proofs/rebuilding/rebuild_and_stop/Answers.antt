use Rattle.std.proofs.Common.{rules, ◌≡◌, refl}
use Rattle.std.specs.Prelude.{Err}
use Rattle.md_refusals.specs.declared.fault.CommandFault.TheVariants.{Rebuild, Stop}
use Rattle.md_refusals.proofs.Wrapped.{own_err, own_ok}
use Rattle.md_commands.proofs.rebuilding.rebuild_and_stop.Goals as goal

pub returns-in_err-rebuilt-clause-gives : goal.returns-in_err-rebuilt-clause-gives
returns-in_err-rebuilt-clause-gives g c =
    let readied = own_ok _ _ _ c.resync_if_needed.result _ _ c.resync_if_needed.ensures.gives c.in_ok-map_err.ensures.cases c.in_ok-map_err.ensures.variant refl in
    let own = own_err _ _ _ c.rebuild_watched.result _ _ c.rebuild_watched.ensures.gives c.in_err-rebuilt.ensures.cases refl in
    let is : c.from_residual-in_err-rebuilt.result ≡ Err (Rebuild own.0) = let post = own.2 in search rules in
    rw is (record { ready = c.resync_if_needed.new.mirror; readied = readied; refused = own.1 })

pub returns-in_err-map_err-2-clause-gives : goal.returns-in_err-map_err-2-clause-gives
returns-in_err-map_err-2-clause-gives g c =
    let own = own_err _ _ _ c.stop.result _ _ c.stop.ensures.gives c.in_err-map_err-2.ensures.cases refl in
    let is : c.from_residual-in_err-map_err-2.result ≡ Err (Stop own.0) = let post = own.2 in search rules in
    let readied = own_ok _ _ _ c.resync_if_needed.result _ _ c.resync_if_needed.ensures.gives c.in_ok-map_err.ensures.cases c.in_ok-map_err.ensures.variant refl in
    let rebuilds = own_ok _ _ _ c.rebuild_watched.result _ _ c.rebuild_watched.ensures.gives c.in_ok-rebuilt.ensures.cases c.in_ok-rebuilt.ensures.variant refl in
    rw is (record {
      mid = c.rebuild_watched.new.mirror;
      through = (c.in_ok-rebuilt.rebuilt, record { ready = c.resync_if_needed.new.mirror; readied = readied; rebuilds = rebuilds });
      refused = own.1;
    })

pub returns-clause-gives : goal.returns-clause-gives
returns-clause-gives g c =
    let readied = own_ok _ _ _ c.resync_if_needed.result _ _ c.resync_if_needed.ensures.gives c.in_ok-map_err.ensures.cases c.in_ok-map_err.ensures.variant refl in
    let rebuilds = own_ok _ _ _ c.rebuild_watched.result _ _ c.rebuild_watched.ensures.gives c.in_ok-rebuilt.ensures.cases c.in_ok-rebuilt.ensures.variant refl in
    let done = own_ok _ _ _ c.stop.result _ _ c.stop.ensures.gives c.in_ok-map_err-2.ensures.cases c.in_ok-map_err-2.ensures.variant refl in
    record {
      mid = c.rebuild_watched.new.mirror;
      through = record { ready = c.resync_if_needed.new.mirror; readied = readied; rebuilds = rebuilds };
      stops = done;
    }

pub returns-in_err-map_err-2-clause-pending : goal.returns-in_err-map_err-2-clause-pending
returns-in_err-map_err-2-clause-pending g c p is =
    c.stop.ensures.pending p (c.rebuild_watched.ensures.pending p (c.resync_if_needed.ensures.pending p is))

pub returns-clause-pending : goal.returns-clause-pending
returns-clause-pending g c p is =
    c.stop.ensures.pending p (c.rebuild_watched.ensures.pending p (c.resync_if_needed.ensures.pending p is))
