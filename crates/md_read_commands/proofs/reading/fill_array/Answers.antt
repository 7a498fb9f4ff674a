use Rattle.std.proofs.Common.{rules, Err, ◌≡◌, refl}
use Rattle.md_refusals.specs.declared.fault.CommandFault.TheVariants.{Read}
use Rattle.md_read_commands.proofs.ReadReadied.{fills_all, fills_but, not_ready_to_fill, refuses_to_fill}
use Rattle.md_refusals.proofs.Wrapped.{own_err, own_ok}
use Rattle.md_read_commands.proofs.reading.fill_array.Goals as goal

pub returns-in_err-way-clause-gives : goal.returns-in_err-way-clause-gives
returns-in_err-way-clause-gives g c =
    let fault = c.in_err-way.field-0.0 in
    let passed : c.from_residual.result ≡ Err fault = search rules in
    rw passed
    (not_ready_to_fill g.S.Sink c.args.readonly c.args.sectors.sector c.args.sectors.count c.args.gaps.now c.args.mirror.now c.args.mirror.now c.ready.new.mirror c.args.out.now c.args.out.now c.requires.none fault c.in_err-way.ensures.gives)

pub returns-in_err-put_filled-clause-gives : goal.returns-in_err-put_filled-clause-gives
returns-in_err-put_filled-clause-gives g c =
    let fault = c.in_err-put_filled.field-0.0 in
    let passed : c.from_residual-in_err-put_filled.result ≡ Err fault = search rules in
    rw passed
    (refuses_to_fill g.S.Sink c.args.readonly c.args.sectors.sector c.args.sectors.count c.put_filled.new.gaps c.args.mirror.now c.ready.new.mirror c.put_filled.new.mirror c.args.out.now c.put_filled.new.out c.in_ok-way.way c.in_ok-way.ensures.gives
    fault c.in_err-put_filled.ensures.gives)

pub returns-in_err-map_err-clause-gives : goal.returns-in_err-map_err-clause-gives
returns-in_err-map_err-clause-gives g c =
    let own = own_err _ _ _ c.first_gap.result _ _ c.first_gap.ensures c.in_err-map_err.ensures.cases refl in
    let passed : c.from_residual-in_err-map_err.result ≡ Err (Read own.0) = let post = own.2 in search rules in
    rw passed
    (fills_but g.S.Sink c.args.readonly c.args.sectors.sector c.args.sectors.count c.put_filled.new.gaps c.args.mirror.now c.ready.new.mirror c.put_filled.new.mirror c.args.out.now c.put_filled.new.out c.in_ok-way.way c.in_ok-way.ensures.gives
    c.in_ok-put_filled.ensures.gives own.0 own.1)

pub returns-clause-gives : goal.returns-clause-gives
returns-clause-gives g c =
    fills_all g.S.Sink c.args.readonly c.args.sectors.sector c.args.sectors.count c.put_filled.new.gaps c.args.mirror.now c.ready.new.mirror c.put_filled.new.mirror c.args.out.now c.put_filled.new.out c.in_ok-way.way c.in_ok-way.ensures.gives
    c.in_ok-put_filled.ensures.gives
    (own_ok _ _ _ c.first_gap.result _ _ c.first_gap.ensures c.in_ok-map_err.ensures.cases c.in_ok-map_err.ensures.variant refl)
