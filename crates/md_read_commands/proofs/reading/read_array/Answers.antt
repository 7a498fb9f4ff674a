use Rattle.std.proofs.Common.{rules, Err, ◌≡◌}
use Rattle.md_read_commands.proofs.ReadReadied.{not_ready, read_ready}
use Rattle.md_read_commands.proofs.reading.read_array.Goals as goal

pub returns-in_err-way-clause-gives : goal.returns-in_err-way-clause-gives
returns-in_err-way-clause-gives g c =
    let fault = c.in_err-way.field-0.0 in
    let passed : c.from_residual.result ≡ Err fault = search rules in
    rw passed
    (not_ready g.S.Sink c.args.sector c.args.count c.args.mirror.now c.make_ready.new.mirror c.args.out.now c.args.out.now fault c.in_err-way.ensures.gives)

pub returns-clause-gives : goal.returns-clause-gives
returns-clause-gives g c =
    read_ready g.S.Sink c.args.sector c.args.count c.args.mirror.now c.make_ready.new.mirror c.put_sectors.new.mirror c.args.out.now c.put_sectors.new.out c.in_ok-way.way c.in_ok-way.ensures.gives
    c.put_sectors.result c.put_sectors.ensures.gives
