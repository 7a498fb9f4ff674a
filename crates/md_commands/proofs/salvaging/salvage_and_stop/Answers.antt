use Rattle.std.proofs.Common.{rules, ◌≡◌, refl, arith}
use Rattle.std.specs.Prelude.{Err}
use Rattle.md_refusals.specs.declared.fault.CommandFault.TheVariants.{Rebuild, Resync, Stop}
use Rattle.md_refusals.proofs.Wrapped.{own_err, own_ok}
use Rattle.md_commands.proofs.AsideCounts.{readied_to_salvage}
use Rattle.md_commands.proofs.salvaging.salvage_and_stop.Goals as goal

pub returns-in_err-map_err-clause-gives : goal.returns-in_err-map_err-clause-gives
returns-in_err-map_err-clause-gives g c =
    let own = own_err _ _ _ c.resync_to_salvage.result _ _ c.resync_to_salvage.ensures.gives c.in_err-map_err.ensures.cases refl in
    let is : c.from_residual.result ≡ Err (Resync own.0) = let post = own.2 in search rules in
    rw is own.1

pub salvage_watched-requires-clause-member : goal.salvage_watched-requires-clause-member
salvage_watched-requires-clause-member g c =
    let readied = own_ok _ _ _ c.resync_to_salvage.result _ _ c.resync_to_salvage.ensures.gives c.in_ok-map_err.ensures.cases c.in_ok-map_err.ensures.variant refl in
    omega (arith, readied_to_salvage c.args.mirror.now c.resync_to_salvage.new.mirror readied, c.resync_to_salvage.ensures.sound.fits.as_many, c.requires.sound.fits.as_many, c.requires.member)

pub returns-in_err-salvaged-clause-gives : goal.returns-in_err-salvaged-clause-gives
returns-in_err-salvaged-clause-gives g c =
    let readied = own_ok _ _ _ c.resync_to_salvage.result _ _ c.resync_to_salvage.ensures.gives c.in_ok-map_err.ensures.cases c.in_ok-map_err.ensures.variant refl in
    let own = own_err _ _ _ c.salvage_watched.result _ _ c.salvage_watched.ensures.gives c.in_err-salvaged.ensures.cases refl in
    let is : c.from_residual-in_err-salvaged.result ≡ Err (Rebuild own.0) = let post = own.2 in search rules in
    rw is (record { ready = c.resync_to_salvage.new.mirror; readied = readied; refused = own.1 })

pub returns-in_err-map_err-2-clause-gives : goal.returns-in_err-map_err-2-clause-gives
returns-in_err-map_err-2-clause-gives g c =
    let own = own_err _ _ _ c.stop.result _ _ c.stop.ensures.gives c.in_err-map_err-2.ensures.cases refl in
    let is : c.from_residual-in_err-map_err-2.result ≡ Err (Stop own.0) = let post = own.2 in search rules in
    let readied = own_ok _ _ _ c.resync_to_salvage.result _ _ c.resync_to_salvage.ensures.gives c.in_ok-map_err.ensures.cases c.in_ok-map_err.ensures.variant refl in
    let salvages = own_ok _ _ _ c.salvage_watched.result _ _ c.salvage_watched.ensures.gives c.in_ok-salvaged.ensures.cases c.in_ok-salvaged.ensures.variant refl in
    rw is (record {
      mid = c.salvage_watched.new.mirror;
      through = (c.in_ok-salvaged.salvaged, record { ready = c.resync_to_salvage.new.mirror; readied = readied; salvages = salvages });
      refused = own.1;
    })

pub returns-clause-gives : goal.returns-clause-gives
returns-clause-gives g c =
    let readied = own_ok _ _ _ c.resync_to_salvage.result _ _ c.resync_to_salvage.ensures.gives c.in_ok-map_err.ensures.cases c.in_ok-map_err.ensures.variant refl in
    let salvages = own_ok _ _ _ c.salvage_watched.result _ _ c.salvage_watched.ensures.gives c.in_ok-salvaged.ensures.cases c.in_ok-salvaged.ensures.variant refl in
    let done = own_ok _ _ _ c.stop.result _ _ c.stop.ensures.gives c.in_ok-map_err-2.ensures.cases c.in_ok-map_err-2.ensures.variant refl in
    record {
      mid = c.salvage_watched.new.mirror;
      through = record { ready = c.resync_to_salvage.new.mirror; readied = readied; salvages = salvages };
      stops = done;
    }

pub returns-in_err-map_err-2-clause-pending : goal.returns-in_err-map_err-2-clause-pending
returns-in_err-map_err-2-clause-pending g c p is =
    c.stop.ensures.pending p (c.salvage_watched.ensures.pending p (c.resync_to_salvage.ensures.pending p is))

pub returns-clause-pending : goal.returns-clause-pending
returns-clause-pending g c p is =
    c.stop.ensures.pending p (c.salvage_watched.ensures.pending p (c.resync_to_salvage.ensures.pending p is))
